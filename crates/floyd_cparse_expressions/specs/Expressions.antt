-- The grammar of expressions. `room` and `count` are the depth at which a production's first token stands.
--
--   effect = unary "=" rhs | unary op "=" expr | postfix "++" | postfix "--" | "++" unary | "--" unary | call
--   rhs    = expr | call
--   call   = postfix "(" [expr {"," expr}] ")"
--
-- `expr` has C's operators and precedences from `?:` down to postfix. C's assignment expression, without the comma, stands
-- wherever `expr` or `rhs` does, so that an effect inside an expression parses:
--
--   expr        = conditional { ("=" | op "=") conditional }, to the right, where what is assigned to is unary
--   conditional = operators [ "?" expr ":" conditional ]
--   operators   = ten levels of binary operators, to the left
--   unary       = { "-" | "+" | "~" | "!" | "*" | "&" | "++" | "--" | "(" typename ")" } operand
--   operand     = postfix | "sizeof" "(" typename ")"
--   postfix     = primary { "[" expr "]" | "(" [expr {"," expr}] ")" | "." name | "->" name | "++" | "--" }
--   primary     = name | literal | "(" expr ")"
use Rattle.std.specs.Prelude.{ℕ, zero, suc, ◌+◌, nat_lt, pred, Bool, true, false, not, ◌&&◌, ◌||◌, if◌then◌else◌, Option, Some, None, Result, Ok, Err, List, [], ◌∷◌, ◌++◌, length}
use Rattle.floyd_int.specs.declared.kinds.IntOp.{IntOp}
use Rattle.floyd_int.specs.declared.kinds.IntOp.TheVariants.{Add, Sub, Mul, Div, Rem, And, Or, Xor, Shl, Shr, Eq, Ne, Lt, Le, Gt, Ge}
use Rattle.floyd_text.specs.declared.place.Place.{Place}
use Rattle.floyd_lex.specs.declared.kinds.TokenKind.{TokenKind}
use Rattle.floyd_lex.specs.declared.kinds.TokenKind.TheVariants as k
use Rattle.floyd_lex.specs.declared.kinds.Punctuator.TheVariants as p
use Rattle.floyd_lex.specs.declared.kinds.Keyword.TheVariants as w
use Rattle.floyd_grammar.specs.Phrase.{Phrase, one, pure, ◌>>=◌, ◌>>◌, ◌or◌, folded, grouped}
use Rattle.floyd_cparse_trees.specs.declared.expressions.BinaryOp.{BinaryOp}
use Rattle.floyd_cparse_trees.specs.declared.expressions.BinaryOp.TheVariants as binary
use Rattle.floyd_cparse_trees.specs.declared.expressions.CExpr.{CExpr}
use Rattle.floyd_cparse_trees.specs.declared.expressions.CExpr.TheVariants as e
use Rattle.floyd_cparse_trees.specs.declared.expressions.MemberOp.{MemberOp}
use Rattle.floyd_cparse_trees.specs.declared.expressions.MemberOp.TheVariants as member
use Rattle.floyd_cparse_trees.specs.declared.expressions.PrefixOp.{PrefixOp}
use Rattle.floyd_cparse_trees.specs.declared.expressions.PrefixOp.TheVariants as prefix
use Rattle.floyd_cparse_trees.specs.declared.expressions.StepOp.{StepOp}
use Rattle.floyd_cparse_trees.specs.declared.expressions.StepOp.TheVariants as step
use Rattle.floyd_cparse_trees.specs.declared.types.Identifier.{Identifier}
use Rattle.floyd_cparse_trees.specs.declared.types.Literal.{Literal}
use Rattle.floyd_cparse_trees.specs.declared.types.TypeName.{TypeName}
use Rattle.floyd_cparse_expressions.specs.declared.values.Arguments.{Arguments}
use Rattle.floyd_cparse_expressions.specs.declared.values.Assigning.{Assigning}
use Rattle.floyd_cparse_expressions.specs.declared.values.Chain.{Chain}
use Rattle.floyd_cparse_expressions.specs.declared.values.Comma.{Comma}
use Rattle.floyd_cparse_expressions.specs.declared.values.Comma.TheVariants as comma
use Rattle.floyd_cparse_types.specs.declared.values.Declared.TheVariants as of
use Rattle.floyd_cparse_expressions.specs.declared.values.EffectNext.{EffectNext}
use Rattle.floyd_cparse_expressions.specs.declared.values.EffectNext.TheVariants as next
use Rattle.floyd_cparse_expressions.specs.declared.values.Ending.{Ending}
use Rattle.floyd_cparse_expressions.specs.declared.values.Form.{Form}
use Rattle.floyd_cparse_expressions.specs.declared.values.Form.TheVariants as form
use Rattle.floyd_cparse_expressions.specs.declared.values.Infix.{Infix}
use Rattle.floyd_cparse_expressions.specs.declared.values.Operand.{Operand}
use Rattle.floyd_cparse_expressions.specs.declared.values.OperandStart.{OperandStart}
use Rattle.floyd_cparse_expressions.specs.declared.values.OperandStart.TheVariants as start
use Rattle.floyd_cparse_expressions.specs.declared.values.PostfixStart.{PostfixStart}
use Rattle.floyd_cparse_expressions.specs.declared.values.PostfixStart.TheVariants as postfix_start
use Rattle.floyd_cparse_trees.specs.declared.expressions.Prefix.{Prefix}
use Rattle.floyd_cparse_trees.specs.declared.expressions.Prefix.TheVariants as before
use Rattle.floyd_cparse_expressions.specs.declared.values.PrefixStart.{PrefixStart}
use Rattle.floyd_cparse_expressions.specs.declared.values.PrefixStart.TheVariants as prefix_start
use Rattle.floyd_cparse_expressions.specs.declared.values.Prefixes.{Prefixes}
use Rattle.floyd_cparse_types.specs.declared.values.ReadDeclarator.{ReadDeclarator}
use Rattle.floyd_cparse_types.specs.declared.values.ReadSpecifiers.{ReadSpecifiers}
use Rattle.floyd_cparse_expressions.specs.declared.values.Target.{Target}
use Rattle.floyd_cparse_tokens.specs.Tokens.{without_room, is_there, Sight, Types, is_mark, is_word, is_name, is_plain, identifier_of, literal_of, opens_type, unexpected, left_out, too_deep, is_deep, blame, offer, demand, found_or, place_if}
use Rattle.floyd_cparse_types.specs.Types.{within, after_declarator, latest}

-- The operators of each kind.
abbrev pub prefix_op : TokenKind → Option PrefixOp
prefix_op (k.Punctuator p.Minus) = Some prefix.Minus
prefix_op (k.Punctuator p.Plus) = Some prefix.Plus
prefix_op (k.Punctuator p.Tilde) = Some prefix.Complement
prefix_op (k.Punctuator p.Exclamation) = Some prefix.Not
prefix_op (k.Punctuator p.Star) = Some prefix.Dereference
prefix_op (k.Punctuator p.Ampersand) = Some prefix.Address
prefix_op kind = None

abbrev pub step_op : TokenKind → Option StepOp
step_op (k.Punctuator p.PlusPlus) = Some step.Increment
step_op (k.Punctuator p.MinusMinus) = Some step.Decrement
step_op kind = None

abbrev pub member_op : TokenKind → Option MemberOp
member_op (k.Punctuator p.Dot) = Some member.Dot
member_op (k.Punctuator p.Arrow) = Some member.Arrow
member_op kind = None

-- the binary operators, with the level of each: the greater a level, the looser its operators bind
abbrev pub binary_op : TokenKind → Option (ℕ × BinaryOp)
binary_op (k.Punctuator p.Star) = Some (1, binary.Int Mul)
binary_op (k.Punctuator p.Slash) = Some (1, binary.Int Div)
binary_op (k.Punctuator p.Percent) = Some (1, binary.Int Rem)
binary_op (k.Punctuator p.Plus) = Some (2, binary.Int Add)
binary_op (k.Punctuator p.Minus) = Some (2, binary.Int Sub)
binary_op (k.Punctuator p.ShiftLeft) = Some (3, binary.Int Shl)
binary_op (k.Punctuator p.ShiftRight) = Some (3, binary.Int Shr)
binary_op (k.Punctuator p.Less) = Some (4, binary.Int Lt)
binary_op (k.Punctuator p.Greater) = Some (4, binary.Int Gt)
binary_op (k.Punctuator p.LessEqual) = Some (4, binary.Int Le)
binary_op (k.Punctuator p.GreaterEqual) = Some (4, binary.Int Ge)
binary_op (k.Punctuator p.EqualEqual) = Some (5, binary.Int Eq)
binary_op (k.Punctuator p.NotEqual) = Some (5, binary.Int Ne)
binary_op (k.Punctuator p.Ampersand) = Some (6, binary.Int And)
binary_op (k.Punctuator p.Caret) = Some (7, binary.Int Xor)
binary_op (k.Punctuator p.Bar) = Some (8, binary.Int Or)
binary_op (k.Punctuator p.AndAnd) = Some (9, binary.And)
binary_op (k.Punctuator p.BarBar) = Some (10, binary.Or)
binary_op kind = None

-- "=", and "op =" with its operator
abbrev pub assign_op : TokenKind → Option (Option IntOp)
assign_op (k.Punctuator p.Equal) = Some None
assign_op (k.Punctuator p.StarEqual) = Some (Some Mul)
assign_op (k.Punctuator p.SlashEqual) = Some (Some Div)
assign_op (k.Punctuator p.PercentEqual) = Some (Some Rem)
assign_op (k.Punctuator p.PlusEqual) = Some (Some Add)
assign_op (k.Punctuator p.MinusEqual) = Some (Some Sub)
assign_op (k.Punctuator p.ShiftLeftEqual) = Some (Some Shl)
assign_op (k.Punctuator p.ShiftRightEqual) = Some (Some Shr)
assign_op (k.Punctuator p.AmpersandEqual) = Some (Some And)
assign_op (k.Punctuator p.CaretEqual) = Some (Some Xor)
assign_op (k.Punctuator p.BarEqual) = Some (Some Or)
assign_op kind = None

abbrev pub is_postfix_op : Sight → Bool
is_postfix_op s = is_mark p.OpenBracket s || is_mark p.OpenParen s || is_there (member_op s.token.kind) || is_there (step_op s.token.kind)

abbrev pub is_wide : Form → Bool
is_wide form.Effect = false
is_wide form.Unary = false
is_wide form.Wide = true

abbrev pub is_effect : Form → Bool
is_effect form.Effect = true
is_effect form.Unary = false
is_effect form.Wide = false

-- what may go on with an unary expression, and with any
abbrev pub goes_on_unary : Ending → Sight → Bool
goes_on_unary end s = is_postfix_op s && not end.type_name

abbrev pub goes_on : Ending → Sight → Bool
goes_on end s = goes_on_unary end s || is_there (binary_op s.token.kind) || is_mark p.Question s || (is_there (assign_op s.token.kind) && not (is_wide end.form))

-- A `,` directly behind an expression is left out behind an effect, and in parentheses that are not a call's; so is a
-- `{` behind a type name in parentheses.
abbrev pub is_comma_left_out : Comma → Ending → Bool
is_comma_left_out comma.Separates end = false
is_comma_left_out comma.Plain end = end.effect
is_comma_left_out comma.LeftOut end = true

abbrev pub is_separator : Comma → Sight → Bool
is_separator comma.Separates s = is_mark p.Comma s
is_separator comma.Plain s = false
is_separator comma.LeftOut s = false

abbrev pub behind_expression : Comma → Ending → Sight → ℕ
behind_expression c end s =
    if (is_mark p.Comma s && is_comma_left_out c end) || (is_mark p.OpenBrace s && end.type_name) then left_out else unexpected

-- For what a token is refused directly behind an expression; what may go on with it, or separate it from the next, is
-- refused, if at all, there.
abbrev pub after_unary : Types → Comma → ℕ → Ending → Sight → ℕ
after_unary types c room end s = if goes_on_unary end s then unexpected else blame types room end.count (behind_expression c end s) s

abbrev pub after_expression : Types → Comma → ℕ → Ending → Sight → ℕ
after_expression types c room end s =
    if goes_on end s || is_separator c s then unexpected else blame types room end.count (behind_expression c end s) s

-- inside `?` and `:` nothing separates
abbrev pub inside : Comma → Comma
inside comma.Separates = comma.Plain
inside comma.Plain = comma.Plain
inside comma.LeftOut = comma.LeftOut

-- How expressions end.
abbrev pub plain_end : ℕ → Ending
plain_end count = record { count = count; form = form.Unary; effect = false; type_name = false }

abbrev pub effect_end : ℕ → Ending
effect_end count = record { count = count; form = form.Effect; effect = true; type_name = false }

abbrev pub size_end : ℕ → Ending
size_end count = record { count = count; form = form.Unary; effect = false; type_name = true }

-- Tokens.
abbrev pub close_paren : Sight → Option Place
close_paren s = place_if (is_mark p.CloseParen s) s

abbrev pub close_bracket : Sight → Option Place
close_bracket s = place_if (is_mark p.CloseBracket s) s

-- a prefix, or a cast where the beginning of a type stands behind "("
abbrev pub with_place_prefix : Place → Option PrefixOp → Option StepOp → Option PrefixStart
with_place_prefix place (Some op) step = Some (prefix_start.Op op place)
with_place_prefix place None (Some op) = Some (prefix_start.Step op place)
with_place_prefix place None None = None

abbrev pub next_begins_type : Types → Sight → Bool
next_begins_type types s = opens_type types (s.token ∷ s.behind)

abbrev pub start_of_prefix : Types → Sight → Option PrefixStart
start_of_prefix types s =
    if next_begins_type types s then Some (prefix_start.Cast s.token.place)
    else with_place_prefix s.token.place (prefix_op s.token.kind) (step_op s.token.kind)

-- Where the next token is too deep, the operand refuses it.
abbrev pub prefix_token : Types → ℕ → ℕ → Sight → Result PrefixStart ℕ
prefix_token types room count s = if nat_lt room count then Err unexpected else offer room count s (start_of_prefix types s)

abbrev pub start_of_literal : Option Literal → Option OperandStart
start_of_literal None = None
start_of_literal (Some literal) = Some (start.Literal literal)

abbrev pub start_of_operand : Types → Sight → Option OperandStart
start_of_operand types s =
    if is_plain types s then Some (start.Name (identifier_of s))
    else if is_mark p.OpenParen s then Some (start.Open s.token.place)
    else if is_word w.Sizeof s && opens_type types s.behind then Some (start.SizeOf s.token.place)
    else start_of_literal (literal_of s)

-- `{` behind a cast begins a compound literal
abbrev pub behind_prefix : Bool → Sight → ℕ
behind_prefix cast s = if cast && is_mark p.OpenBrace s then left_out else unexpected

-- What is a prefix is refused, if at all, there, unless it is too deep.
abbrev pub operand_token : Types → Bool → ℕ → ℕ → Sight → Result OperandStart ℕ
operand_token types cast room count s =
    if is_there (start_of_prefix types s) && not (nat_lt room count) then Err unexpected
    else demand types room count (behind_prefix cast s) s (start_of_operand types s)

-- a postfix operator
abbrev pub start_of_member : Place → Option MemberOp → Option StepOp → Option PostfixStart
start_of_member place (Some op) step = Some (postfix_start.Member op place)
start_of_member place None (Some op) = Some (postfix_start.Step op place)
start_of_member place None None = None

abbrev pub start_of_postfix : Sight → Option PostfixStart
start_of_postfix s =
    if is_mark p.OpenBracket s then Some (postfix_start.Index s.token.place)
    else if is_mark p.OpenParen s then Some (postfix_start.Call s.token.place)
    else start_of_member s.token.place (member_op s.token.kind) (step_op s.token.kind)

-- none stands behind `sizeof` and a type name
abbrev pub postfix_token : ℕ → Ending → Sight → Result PostfixStart ℕ
postfix_token room end s = if end.type_name then Err unexpected else offer room end.count s (start_of_postfix s)

abbrev pub field_name : Sight → Option Identifier
field_name s = if is_name s then Some (identifier_of s) else None

-- a binary operator of a level
abbrev pub infix_at : ℕ → Place → Option (ℕ × BinaryOp) → Option Infix
infix_at level place None = None
infix_at level place (Some op) = if nat_lt op.0 level || nat_lt level op.0 then None else Some record { op = op.1; place = place }

abbrev pub infix_token : ℕ → ℕ → Operand → Sight → Result Infix ℕ
infix_token room level left s = offer room left.end.count s (infix_at level s.token.place (binary_op s.token.kind))

abbrev pub question_token : ℕ → Operand → Sight → Result Place ℕ
question_token room condition s = offer room condition.end.count s (place_if (is_mark p.Question s) s)

-- ":" stands inside its "?"
abbrev pub colon_token : Types → Comma → ℕ → Operand → Sight → Result Place ℕ
colon_token types c room middle s =
    if is_mark p.Colon s then (if nat_lt room middle.end.count then Err too_deep else Ok s.token.place)
    else Err (after_expression types (inside c) room middle.end s)

abbrev pub assigning_at : Place → Option (Option IntOp) → Option Assigning
assigning_at place None = None
assigning_at place (Some op) = Some record { op = op; place = place }

abbrev pub assigning_of : Sight → Option Assigning
assigning_of s = assigning_at s.token.place (assign_op s.token.kind)

abbrev pub assign_token : ℕ → Chain → Sight → Result Assigning ℕ
assign_token room chain s = if is_wide chain.last.end.form then Err unexpected else offer room chain.last.end.count s (assigning_of s)

abbrev pub typename_end : Types → ℕ → ReadDeclarator → Sight → Result Place ℕ
typename_end types room declarator s = found_or (after_declarator types of.Nothing room declarator.end unexpected s) (close_paren s)

abbrev pub argument_comma : ℕ → Arguments → Sight → Result Place ℕ
argument_comma room all s = offer room all.end.count s (place_if (is_mark p.Comma s) s)

abbrev pub arguments_end : Types → ℕ → Arguments → Sight → Result Place ℕ
arguments_end types room all s = found_or (after_expression types comma.Separates room all.end s) (close_paren s)

abbrev pub no_arguments_end : Sight → Result Place ℕ
no_arguments_end s = found_or unexpected (close_paren s)

abbrev pub index_end : Types → ℕ → Operand → Sight → Result Place ℕ
index_end types room x s = found_or (after_expression types comma.Plain room x.end s) (close_bracket s)

abbrev pub inner_end : Types → ℕ → Operand → Sight → Result Place ℕ
inner_end types room x s = found_or (after_expression types comma.LeftOut room x.end s) (close_paren s)

abbrev pub field_token : Types → ℕ → ℕ → Sight → Result Identifier ℕ
field_token types room count s = demand types room count unexpected s (field_name s)

abbrev pub open_token : Types → ℕ → ℕ → Sight → Result Place ℕ
open_token types room count s = demand types room count unexpected s (place_if (is_mark p.OpenParen s) s)

-- What is built.
-- with a prefix before what ends so
abbrev pub with_prefix : Prefix → Ending → Ending
with_prefix (before.Op op place) end = record end { form = form.Unary }
with_prefix (before.Step op place) end = record end { form = form.Effect; effect = true }
with_prefix (before.Cast type_name place) end = record end { form = form.Unary }

abbrev pub end_with_prefixes : List Prefix → Ending → Ending
end_with_prefixes [] end = end
end_with_prefixes (first ∷ more) end = with_prefix first (end_with_prefixes more end)

abbrev pub with_prefixes : List Prefix → Operand → Operand
with_prefixes [] x = x
with_prefixes (first ∷ more) x = record { tree = e.Prefixed (first ∷ more) x.tree; end = end_with_prefixes (first ∷ more) x.end }

abbrev pub binary_of : Infix → Operand → Operand → Operand
binary_of op x y = record { tree = e.Binary x.tree op.op op.place y.tree; end = record y.end { form = form.Wide } }

abbrev pub choice_of : Operand → Place → Operand → Operand → Operand
choice_of condition place middle otherwise = record { tree = e.Conditional condition.tree place middle.tree otherwise.tree; end = record otherwise.end { form = form.Wide } }

abbrev pub assign_all : List Target → CExpr → CExpr
assign_all [] value = value
assign_all (target ∷ targets) value = e.Assign target.tree target.by.op target.by.place (assign_all targets value)

abbrev pub chain_operand : Chain → Operand
chain_operand chain = elim chain.targets [
  | [] ↦ chain.last
  | target ∷ targets ↦ record { tree = e.Assign target.tree target.by.op target.by.place (assign_all targets chain.last.tree); end = record chain.last.end { effect = true } }
]

abbrev pub plus_target : Chain → Assigning × Operand → Chain
plus_target chain next = record { targets = chain.targets ++ record { tree = chain.last.tree; by = next.0 } ∷ []; last = next.1 }

abbrev pub no_prefixes : ℕ → Prefixes
no_prefixes count = record { items = []; count = count; cast = false }

abbrev pub one_prefix_of : Prefix → ℕ → Bool → Prefixes
one_prefix_of prefix count cast = record { items = prefix ∷ []; count = count; cast = cast }

abbrev pub plus_prefix : Prefixes → Prefixes → Prefixes
plus_prefix all next = record { items = all.items ++ next.items; count = next.count; cast = next.cast }

abbrev pub first_argument : Operand → Arguments
first_argument first = record { items = first.tree ∷ []; end = first.end }

abbrev pub plus_argument : Arguments → Operand → Arguments
plus_argument all next = record { items = all.items ++ next.tree ∷ []; end = next.end }

abbrev pub nothing_given : ℕ → Arguments
nothing_given count = record { items = []; end = plain_end count }

abbrev pub subscript_of : Operand → Place → Operand → Operand
subscript_of x place index = record { tree = e.Index x.tree place index.tree; end = plain_end index.end.count }

abbrev pub call_of : Operand → Place → Arguments → Operand
call_of x place all = record { tree = e.Call x.tree place all.items; end = effect_end all.end.count }

abbrev pub member_of : Operand → MemberOp → Place → Identifier → Operand
member_of x op place field = record { tree = e.Member x.tree op place field; end = plain_end (x.end.count + 1) }

abbrev pub step_of : Operand → StepOp → Place → Operand
step_of x op place = record { tree = e.PostfixStep x.tree op place; end = effect_end (x.end.count + 1) }

abbrev pub name_operand : Identifier → ℕ → Operand
name_operand name count = record { tree = e.Name name; end = plain_end count }

abbrev pub constant : Literal → ℕ → Operand
constant literal count = record { tree = e.Literal literal; end = plain_end count }

abbrev pub parentheses_of : Operand → Operand
parentheses_of x = record { tree = e.Parenthesised x.tree; end = plain_end x.end.count }

abbrev pub size_operand : Place → TypeName × ℕ → Operand
size_operand place type = record { tree = e.SizeOf place type.0; end = size_end type.1 }

abbrev pub type_name : ReadSpecifiers → ReadDeclarator → TypeName × ℕ
type_name specifiers declarator = (record { specifiers = specifiers.tree; declarator = declarator.tree }, declarator.end.count)

abbrev pub first_target : Operand → Chain
first_target first = record { targets = []; last = first }

-- What is written in place of an expression: an assignment expression, or C's conditional expression.
pub data Level : Type 0 where
  Whole : Level
  Conditional : Level

-- `room` is left here, and `inner` has expressions one bracket or `?` further in, by what a `,` is behind them and the
-- operators before them.
module _ (types : Types) (room : ℕ) (inner : Level → Comma → ℕ → Phrase Sight Operand) where
  -- typename ")"
  abbrev pub typename_declarator : ℕ → ReadSpecifiers → Phrase Sight (TypeName × ℕ)
  typename_declarator count specifiers = do
    declarator ← (within types room).dtor of.Nothing count
    _ ← one (typename_end types (pred room) declarator)
    pure (type_name specifiers declarator)

  abbrev pub typename : ℕ → Phrase Sight (TypeName × ℕ)
  typename count = (within types room).specs count >>= typename_declarator count

  -- "-" | "+" | "~" | "!" | "*" | "&" | "++" | "--" | "(" typename ")"
  abbrev pub after_prefix_start : ℕ → PrefixStart → Phrase Sight Prefixes
  after_prefix_start count (prefix_start.Op op place) = pure (one_prefix_of (before.Op op place) count false)
  after_prefix_start count (prefix_start.Step op place) = pure (one_prefix_of (before.Step op place) count false)
  after_prefix_start count (prefix_start.Cast place) = do
    type ← typename count
    pure (one_prefix_of (before.Cast type.0 place) type.1 true)

  abbrev pub one_prefix : Prefixes → Phrase Sight Prefixes
  one_prefix all = one (prefix_token types room (all.count + length all.items)) >>= after_prefix_start all.count

  abbrev pub prefixes : ℕ → Phrase Sight Prefixes
  prefixes count = folded plus_prefix one_prefix (no_prefixes count)

  -- expr {"," expr} of a call
  abbrev pub argument_list : ℕ → Phrase Sight Arguments
  argument_list count = do
    first ← inner Whole comma.Separates count
    folded plus_argument (λ all. one (argument_comma (pred room) all) >> inner Whole comma.Separates all.end.count) (first_argument first)

  abbrev pub some_arguments : ℕ → Phrase Sight Arguments
  some_arguments count = do
    all ← argument_list count
    _ ← one (arguments_end types (pred room) all)
    pure all

  abbrev pub no_arguments : ℕ → Phrase Sight Arguments
  no_arguments count = one no_arguments_end >> pure (nothing_given count)

  -- [expr {"," expr}] ")"
  abbrev pub arguments : ℕ → Phrase Sight Arguments
  arguments count = no_arguments count or some_arguments count

  -- "[" expr "]" | "(" [expr {"," expr}] ")" | "." name | "->" name | "++" | "--"
  abbrev pub after_postfix_start : Operand → PostfixStart → Phrase Sight Operand
  after_postfix_start x (postfix_start.Index place) = do
    index ← inner Whole comma.Plain (x.end.count + 1)
    _ ← one (index_end types (pred room) index)
    pure (subscript_of x place index)
  after_postfix_start x (postfix_start.Call place) = do
    all ← arguments (x.end.count + 1)
    pure (call_of x place all)
  after_postfix_start x (postfix_start.Member op place) = do
    field ← one (field_token types room (x.end.count + 1))
    pure (member_of x op place field)
  after_postfix_start x (postfix_start.Step op place) = pure (step_of x op place)

  abbrev pub one_postfix : Operand → Phrase Sight Operand
  one_postfix x = one (postfix_token room x.end) >>= after_postfix_start x

  abbrev pub postfixes : Operand → Phrase Sight Operand
  postfixes x = folded latest one_postfix x

  -- "(" expr ")"
  abbrev pub inner_expr : ℕ → Phrase Sight Operand
  inner_expr count = do
    x ← inner Whole comma.LeftOut count
    _ ← one (inner_end types (pred room) x)
    pure (parentheses_of x)

  -- "sizeof" "(" typename ")"
  abbrev pub size : Place → ℕ → Phrase Sight Operand
  size place count = one (open_token types room count) >> (typename count >>= λ type. pure (size_operand place type))

  -- postfix | "sizeof" "(" typename ")"
  abbrev pub after_operand_start : ℕ → OperandStart → Phrase Sight Operand
  after_operand_start count (start.Name name) = postfixes (name_operand name count)
  after_operand_start count (start.Literal literal) = postfixes (constant literal count)
  after_operand_start count (start.Open place) = inner_expr count >>= postfixes
  after_operand_start count (start.SizeOf place) = size place count

  abbrev pub operand : Prefixes → Phrase Sight Operand
  operand all = one (operand_token types all.cast room (all.count + length all.items)) >>= after_operand_start all.count

  -- unary
  abbrev pub unary : ℕ → Phrase Sight Operand
  unary count = do
    all ← prefixes count
    x ← operand all
    pure (with_prefixes all.items x)

  -- binary operators of so many levels
  abbrev pub operators : ℕ → ℕ → Phrase Sight Operand
  operators zero count = unary count
  operators (suc level) count = grouped binary_of (infix_token room (suc level)) (λ left op. operators level (left.end.count + 1)) (operators level count)

  -- "?" expr ":" conditional
  abbrev pub otherwise : Comma → Operand → Place → Operand → Phrase Sight Operand
  otherwise c condition place middle = do
    _ ← one (colon_token types c (pred room) middle)
    last ← inner Conditional c middle.end.count
    pure (choice_of condition place middle last)

  abbrev pub choice : Comma → Operand → Phrase Sight Operand
  choice c condition = one (question_token room condition) >>= λ place. inner Whole (inside c) condition.end.count >>= otherwise c condition place

  -- operators [ "?" expr ":" conditional ]
  abbrev pub after_condition : Comma → Operand → Phrase Sight Operand
  after_condition c condition = choice c condition or pure condition

  abbrev pub conditional : Comma → ℕ → Phrase Sight Operand
  conditional c count = operators 10 count >>= after_condition c

  -- conditional { ("=" | op "=") conditional }
  abbrev pub assignment : Comma → Chain → Phrase Sight (Assigning × Operand)
  assignment c chain = one (assign_token room chain) >>= λ by. conditional c (chain.last.end.count + 1) >>= λ value. pure (by, value)

  abbrev pub chain : Comma → ℕ → Phrase Sight Chain
  chain c count = conditional c count >>= λ first. folded plus_target (assignment c) (first_target first)

  abbrev pub expr : Comma → ℕ → Phrase Sight Operand
  expr c count = chain c count >>= λ all. pure (chain_operand all)

  abbrev pub at_level : Level → Comma → ℕ → Phrase Sight Operand
  at_level Whole c count = expr c count
  at_level Conditional c count = conditional c count

-- Expressions where `n` less one is left: none where nothing is.
unfoldable pub nested : Types → ℕ → Level → Comma → ℕ → Phrase Sight Operand
nested types zero level c count = one (λ s. Err (without_room count s))
nested types (suc room) level c count = at_level types room (nested types room) level c count

-- An effect, and the token behind it. Its own "=" does not count.
abbrev pub effect_by : Types → Comma → ℕ → (Sight → Option Place) → Operand → Sight → Option Assigning → Result EffectNext ℕ
effect_by types c room end x s (Some by) = if is_deep room x.end.count s then Err too_deep else Ok (next.Assign by)
effect_by types c room end x s None = if is_there (end s) && is_effect x.end.form then Ok next.End else Err (after_unary types c room x.end s)

abbrev pub effect_token : Types → Comma → ℕ → (Sight → Option Place) → Operand → Sight → Result EffectNext ℕ
effect_token types c room end x s = effect_by types c room end x s (assigning_of s)

-- an assignment is an effect that ends where its value ends
abbrev pub effect_end_token : Types → Comma → ℕ → (Sight → Option Place) → Operand → Sight → Result Place ℕ
effect_end_token types c room end value s = found_or (after_expression types c room (record value.end { effect = true }) s) (end s)

abbrev pub assign : Operand → Assigning → Operand → CExpr
assign x by value = e.Assign x.tree by.op by.place value.tree

module _ (types : Types) (room : ℕ) (c : Comma) (end : Sight → Option Place) where
  abbrev pub after_effect : Operand → EffectNext → Phrase Sight CExpr
  after_effect x next.End = pure x.tree
  after_effect x (next.Assign by) = do
    value ← nested types (suc room) Whole c x.end.count
    _ ← one (effect_end_token types c room end value)
    pure (assign x by value)

  abbrev pub effect : Phrase Sight CExpr
  effect = unary types room (nested types room) 0 >>= λ x. one (effect_token types c room end x) >>= after_effect x
