-- Readers of expressions, of the shape of their grammar. They decide by the next token.
use Rattle.std.specs.Prelude.{ℕ, zero, suc, ◌+◌, nat_lt, pred, Bool, true, false, not, ◌&&◌, Option, Err, length}
use Rattle.floyd_text.specs.declared.place.Place.{Place}
use Rattle.floyd_lex.specs.declared.kinds.Punctuator.TheVariants as p
use Rattle.floyd_cparse_trees.specs.declared.expressions.CExpr.{CExpr}
use Rattle.floyd_cparse_trees.specs.declared.types.TypeName.{TypeName}
use Rattle.floyd_cparse_expressions.specs.declared.values.Arguments.{Arguments}
use Rattle.floyd_cparse_expressions.specs.declared.values.Assigning.{Assigning}
use Rattle.floyd_cparse_expressions.specs.declared.values.Chain.{Chain}
use Rattle.floyd_cparse_expressions.specs.declared.values.Comma.{Comma}
use Rattle.floyd_cparse_expressions.specs.declared.values.Comma.TheVariants as comma
use Rattle.floyd_cparse_types.specs.declared.values.Declared.TheVariants as of
use Rattle.floyd_cparse_expressions.specs.declared.values.EffectNext.{EffectNext}
use Rattle.floyd_cparse_expressions.specs.declared.values.EffectNext.TheVariants as next
use Rattle.floyd_cparse_expressions.specs.declared.values.Infix.{Infix}
use Rattle.floyd_cparse_expressions.specs.declared.values.Operand.{Operand}
use Rattle.floyd_cparse_expressions.specs.declared.values.OperandStart.{OperandStart}
use Rattle.floyd_cparse_expressions.specs.declared.values.OperandStart.TheVariants as start
use Rattle.floyd_cparse_expressions.specs.declared.values.PostfixStart.{PostfixStart}
use Rattle.floyd_cparse_expressions.specs.declared.values.PostfixStart.TheVariants as postfix_start
use Rattle.floyd_cparse_trees.specs.declared.expressions.Prefix.TheVariants as before
use Rattle.floyd_cparse_expressions.specs.declared.values.PrefixStart.{PrefixStart}
use Rattle.floyd_cparse_expressions.specs.declared.values.PrefixStart.TheVariants as prefix_start
use Rattle.floyd_cparse_expressions.specs.declared.values.Prefixes.{Prefixes}
use Rattle.floyd_cparse_types.specs.declared.values.ReadSpecifiers.{ReadSpecifiers}
use Rattle.floyd_cparse_tokens.specs.Tokens.{without_room, is_there, Sight, Types, is_mark}
use Rattle.floyd_grammar.specs.ParseClauses.{Parser, one, pure, either, folded, ◌>>=◌, ◌>>◌}
use Rattle.floyd_cparse_types.specs.Types.{latest}
use Rattle.floyd_cparse_types.specs.TypeClauses.{within}
use Rattle.floyd_cparse_expressions.specs.Expressions.{Level, Whole, Conditional, binary_op, goes_on_unary, is_wide, inside, start_of_prefix, prefix_token, operand_token, postfix_token, infix_at, infix_token, question_token, colon_token, assigning_of, assign_token, typename_end, argument_comma, arguments_end, no_arguments_end, index_end, inner_end, field_token, open_token, binary_of, choice_of, chain_operand, plus_target, with_prefixes, no_prefixes, one_prefix_of, plus_prefix, first_argument, plus_argument, nothing_given, subscript_of, call_of, member_of, step_of, name_operand, constant, parentheses_of, size_operand, type_name, first_target, effect_token, effect_end_token, assign}

-- a prefix begins, unless it is too deep
abbrev pub begins_prefix : Types → ℕ → Prefixes → Sight → Bool
begins_prefix types room all s = is_there (start_of_prefix types s) && not (nat_lt room (all.count + length all.items))

abbrev pub is_infix : ℕ → Sight → Bool
is_infix level s = is_there (infix_at level s.token.place (binary_op s.token.kind))

abbrev pub begins_assignment : Chain → Sight → Bool
begins_assignment chain s = is_there (assigning_of s) && not (is_wide chain.last.end.form)

abbrev pub join : Operand → Infix × Operand → Operand
join left next = binary_of next.0 left next.1

-- `room` is left here, and `inner` has expressions one bracket or `?` further in, by what a `,` is behind them and the
-- operators before them.
module _ (types : Types) (room : ℕ) (inner : Level → Comma → ℕ → Parser Sight Operand) where
  -- typename ")"
  unfoldable pub typename_declarator : ℕ → ReadSpecifiers → Parser Sight (TypeName × ℕ)
  typename_declarator count specifiers = do
    declarator ← (within types room).dtor of.Nothing count
    _ ← one (typename_end types (pred room) declarator)
    pure (type_name specifiers declarator)

  unfoldable pub typename : ℕ → Parser Sight (TypeName × ℕ)
  typename count = (within types room).specs count >>= typename_declarator count

  -- "-" | "+" | "~" | "!" | "*" | "&" | "++" | "--" | "(" typename ")"
  unfoldable pub after_prefix_start : ℕ → PrefixStart → Parser Sight Prefixes
  after_prefix_start count (prefix_start.Op op place) = pure (one_prefix_of (before.Op op place) count false)
  after_prefix_start count (prefix_start.Step op place) = pure (one_prefix_of (before.Step op place) count false)
  after_prefix_start count (prefix_start.Cast place) = do
    type ← typename count
    pure (one_prefix_of (before.Cast type.0 place) type.1 true)

  unfoldable pub one_prefix : Prefixes → Parser Sight Prefixes
  one_prefix all = one (prefix_token types room (all.count + length all.items)) >>= after_prefix_start all.count

  unfoldable pub prefixes : ℕ → Parser Sight Prefixes
  prefixes count = folded (begins_prefix types room) plus_prefix one_prefix (no_prefixes count)

  -- expr {"," expr} of a call
  unfoldable pub argument_list : ℕ → Parser Sight Arguments
  argument_list count = do
    first ← inner Whole comma.Separates count
    folded (λ _. is_mark p.Comma) plus_argument (λ all. one (argument_comma (pred room) all) >> inner Whole comma.Separates all.end.count) (first_argument first)

  unfoldable pub some_arguments : ℕ → Parser Sight Arguments
  some_arguments count = do
    all ← argument_list count
    _ ← one (arguments_end types (pred room) all)
    pure all

  unfoldable pub no_arguments : ℕ → Parser Sight Arguments
  no_arguments count = one no_arguments_end >> pure (nothing_given count)

  -- [expr {"," expr}] ")"
  unfoldable pub arguments : ℕ → Parser Sight Arguments
  arguments count = either (is_mark p.CloseParen) (no_arguments count) (some_arguments count)

  -- "[" expr "]" | "(" [expr {"," expr}] ")" | "." name | "->" name | "++" | "--"
  unfoldable pub after_postfix_start : Operand → PostfixStart → Parser Sight Operand
  after_postfix_start x (postfix_start.Index place) = do
    index ← inner Whole comma.Plain (x.end.count + 1)
    _ ← one (index_end types (pred room) index)
    pure (subscript_of x place index)
  after_postfix_start x (postfix_start.Call place) = do
    all ← arguments (x.end.count + 1)
    pure (call_of x place all)
  after_postfix_start x (postfix_start.Member op place) = do
    field ← one (field_token types room (x.end.count + 1))
    pure (member_of x op place field)
  after_postfix_start x (postfix_start.Step op place) = pure (step_of x op place)

  unfoldable pub one_postfix : Operand → Parser Sight Operand
  one_postfix x = one (postfix_token room x.end) >>= after_postfix_start x

  unfoldable pub postfixes : Operand → Parser Sight Operand
  postfixes x = folded (λ x. goes_on_unary x.end) latest one_postfix x

  -- "(" expr ")"
  unfoldable pub inner_expr : ℕ → Parser Sight Operand
  inner_expr count = do
    x ← inner Whole comma.LeftOut count
    _ ← one (inner_end types (pred room) x)
    pure (parentheses_of x)

  -- "(" expr ")" and what stands behind it
  abbrev pub in_parentheses : ℕ → Parser Sight Operand
  in_parentheses count = inner_expr count >>= postfixes

  -- "sizeof" "(" typename ")"
  unfoldable pub size : Place → ℕ → Parser Sight Operand
  size place count = one (open_token types room count) >> (typename count >>= λ type. pure (size_operand place type))

  -- postfix | "sizeof" "(" typename ")"
  unfoldable pub after_operand_start : ℕ → OperandStart → Parser Sight Operand
  after_operand_start count (start.Name name) = postfixes (name_operand name count)
  after_operand_start count (start.Literal literal) = postfixes (constant literal count)
  after_operand_start count (start.Open place) = in_parentheses count
  after_operand_start count (start.SizeOf place) = size place count

  unfoldable pub operand : Prefixes → Parser Sight Operand
  operand all = one (operand_token types all.cast room (all.count + length all.items)) >>= after_operand_start all.count

  -- unary
  unfoldable pub unary : ℕ → Parser Sight Operand
  unary count = do
    all ← prefixes count
    x ← operand all
    pure (with_prefixes all.items x)

  -- binary operators of so many levels
  unfoldable pub operators : ℕ → ℕ → Parser Sight Operand
  operators zero count = unary count
  operators (suc level) count =
      operators level count >>= λ first. folded (λ _. is_infix (suc level)) join (λ left. one (infix_token room (suc level) left) >>= λ op. operators level (left.end.count + 1) >>= λ right. pure (op, right)) first

  -- "?" expr ":" conditional
  unfoldable pub otherwise : Comma → Operand → Place → Operand → Parser Sight Operand
  otherwise c condition place middle = do
    _ ← one (colon_token types c (pred room) middle)
    last ← inner Conditional c middle.end.count
    pure (choice_of condition place middle last)

  unfoldable pub choice : Comma → Operand → Parser Sight Operand
  choice c condition = one (question_token room condition) >>= λ place. inner Whole (inside c) condition.end.count >>= otherwise c condition place

  -- operators [ "?" expr ":" conditional ]
  unfoldable pub after_condition : Comma → Operand → Parser Sight Operand
  after_condition c condition = either (is_mark p.Question) (choice c condition) (pure condition)

  unfoldable pub conditional : Comma → ℕ → Parser Sight Operand
  conditional c count = operators 10 count >>= after_condition c

  -- conditional { ("=" | op "=") conditional }
  unfoldable pub assignment : Comma → Chain → Parser Sight (Assigning × Operand)
  assignment c chain = one (assign_token room chain) >>= λ by. conditional c (chain.last.end.count + 1) >>= λ value. pure (by, value)

  unfoldable pub chain : Comma → ℕ → Parser Sight Chain
  chain c count = conditional c count >>= λ first. folded begins_assignment plus_target (assignment c) (first_target first)

  unfoldable pub expr : Comma → ℕ → Parser Sight Operand
  expr c count = chain c count >>= λ all. pure (chain_operand all)

  unfoldable pub at_level : Level → Comma → ℕ → Parser Sight Operand
  at_level Whole c count = expr c count
  at_level Conditional c count = conditional c count

-- Expressions where `n` less one is left: none where nothing is.
unfoldable pub nested : Types → ℕ → Level → Comma → ℕ → Parser Sight Operand
nested types zero level c count = one (λ s. Err (without_room count s))
nested types (suc room) level c count = at_level types room (nested types room) level c count

module _ (types : Types) (room : ℕ) (c : Comma) (end : Sight → Option Place) where
  unfoldable pub after_effect : Operand → EffectNext → Parser Sight CExpr
  after_effect x next.End = pure x.tree
  after_effect x (next.Assign by) = do
    value ← nested types (suc room) Whole c x.end.count
    _ ← one (effect_end_token types c room end value)
    pure (assign x by value)

  unfoldable pub effect : Parser Sight CExpr
  effect = unary types room (nested types room) 0 >>= λ x. one (effect_token types c room end x) >>= after_effect x
