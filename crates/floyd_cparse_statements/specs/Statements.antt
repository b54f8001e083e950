-- The grammar of statements. Labels are in Labels. `room` is left where a statement begins.
--
--   block = "{" { specs dtor ["=" rhs] {"," dtor ["=" rhs]} ";" | stmt } "}"
--   stmt  = block | ";" | effect ";" | "if" "(" expr ")" stmt ["else" stmt]
--         | "while" "(" expr ")" stmt | "do" stmt "while" "(" expr ")" ";"
--         | "for" "(" [effect] ";" [expr] ";" [effect] ")" stmt
--         | "switch" "(" expr ")" "{" { label { stmt } } "}"
--         | "break" ";" | "continue" ";" | "return" [rhs] ";"
use Rattle.std.specs.Prelude.{ℕ, zero, suc, ◌+◌, ◌-◌, pred, Bool, true, false, not, ◌&&◌, ◌||◌, if◌then◌else◌, Option, Some, None, Result, Err, List, [], ◌∷◌, ◌++◌}
use Rattle.floyd_text.specs.declared.place.Place.{Place}
use Rattle.floyd_lex.specs.declared.kinds.Punctuator.TheVariants as p
use Rattle.floyd_lex.specs.declared.kinds.Keyword.TheVariants as w
use Rattle.floyd_grammar.specs.Phrase.{Phrase, one, pure, barring, ◌>>=◌, ◌>>◌, ◌or◌, folded}
use Rattle.floyd_cparse_trees.specs.declared.expressions.CExpr.{CExpr}
use Rattle.floyd_cparse_trees.specs.declared.statements.BlockItem.{BlockItem}
use Rattle.floyd_cparse_trees.specs.declared.statements.BlockItem.TheVariants as item
use Rattle.floyd_cparse_trees.specs.declared.statements.CStatement.{CStatement}
use Rattle.floyd_cparse_trees.specs.declared.statements.CStatement.TheVariants as s
use Rattle.floyd_cparse_trees.specs.declared.statements.LocalDeclaration.{LocalDeclaration}
use Rattle.floyd_cparse_trees.specs.declared.statements.SwitchCase.{SwitchCase}
use Rattle.floyd_cparse_trees.specs.declared.statements.SwitchLabel.{SwitchLabel}
use Rattle.floyd_cparse_statements.specs.declared.values.BlockItems.{BlockItems}
use Rattle.floyd_cparse_expressions.specs.declared.values.Comma.{Comma}
use Rattle.floyd_cparse_expressions.specs.declared.values.Comma.TheVariants as comma
use Rattle.floyd_cparse_types.specs.declared.values.Declared.TheVariants as of
use Rattle.floyd_cparse_statements.specs.declared.values.LocalEnd.{LocalEnd}
use Rattle.floyd_cparse_statements.specs.declared.values.LocalEnd.TheVariants as end
use Rattle.floyd_cparse_statements.specs.declared.values.Locals.{Locals}
use Rattle.floyd_cparse_expressions.specs.declared.values.Operand.{Operand}
use Rattle.floyd_cparse_types.specs.declared.values.ReadDeclarator.{ReadDeclarator}
use Rattle.floyd_cparse_statements.specs.declared.values.ReadItem.{ReadItem}
use Rattle.floyd_cparse_statements.specs.declared.values.ReadLocal.{ReadLocal}
use Rattle.floyd_cparse_types.specs.declared.values.ReadSpecifiers.{ReadSpecifiers}
use Rattle.floyd_cparse_statements.specs.declared.values.ReadStatement.{ReadStatement}
use Rattle.floyd_cparse_statements.specs.declared.values.StatementStart.{StatementStart}
use Rattle.floyd_cparse_statements.specs.declared.values.StatementStart.TheVariants as start
use Rattle.floyd_cparse_tokens.specs.Tokens.{without_room, Sight, Types, is_mark, is_word, is_name, next_is, begins_type, unexpected, left_out, too_deep, is_deep, demand, found_or, place_if}
use Rattle.floyd_cparse_types.specs.Types.{within, after_declarator}
use Rattle.floyd_cparse_expressions.specs.Expressions.{Whole, nested, effect, after_expression, close_paren, open_token}
use Rattle.floyd_cparse_statements.specs.Labels.{is_label_word, switch_label}

-- a name before ":" is a label
abbrev pub is_label : Sight → Bool
is_label s = is_name s && next_is p.Colon s.behind

abbrev pub label : Sight → Option ℕ
label s = if is_label s then Some left_out else None

-- a declaration begins with the beginning of a type that is no label
abbrev pub begins_declaration : Types → Sight → Bool
begins_declaration types s = begins_type types s.token && not (is_label s)

abbrev pub no_declaration : Types → Sight → Option ℕ
no_declaration types s = if begins_declaration types s then None else Some unexpected

-- `{` behind the `=` of a local variable
abbrev pub list_of_values : ℕ → Sight → Option ℕ
list_of_values room s = if is_mark p.OpenBrace s then Some (if is_deep room 0 s then too_deep else left_out) else None

-- an `else` that belongs to the statement before
abbrev pub is_taken_else : Bool → Sight → Bool
is_taken_else takes_else s = takes_else && is_word w.Else s

abbrev pub taken_else : Bool → Sight → Option ℕ
taken_else takes_else s = if is_taken_else takes_else s then Some unexpected else None

-- A statement behind a label begins neither with a label nor with an `else` that belongs to the statement before.
abbrev pub no_case_item : Bool → Sight → Option ℕ
no_case_item takes_else s = if is_label_word s || is_taken_else takes_else s then Some unexpected else None

abbrev pub is_first : List SwitchCase → Bool
is_first [] = true
is_first (c ∷ cs) = false

-- Tokens.
abbrev pub semicolon : Sight → Option Place
semicolon s = place_if (is_mark p.Semicolon s) s

abbrev pub comma_token : Sight → Result Place ℕ
comma_token s = found_or unexpected (place_if (is_mark p.Comma s) s)

abbrev pub equal_token : Sight → Result Place ℕ
equal_token s = found_or unexpected (place_if (is_mark p.Equal s) s)

abbrev pub brace_end : Sight → Result Place ℕ
brace_end s = found_or unexpected (place_if (is_mark p.CloseBrace s) s)

abbrev pub ending_token : (Sight → Option Place) → Sight → Result Place ℕ
ending_token ending s = found_or unexpected (ending s)

abbrev pub value_end : Types → Comma → ℕ → (Sight → Option Place) → Operand → Sight → Result Place ℕ
value_end types c room ending x s = found_or (after_expression types c room x.end s) (ending s)

abbrev pub semicolon_token : Types → ℕ → ℕ → Sight → Result Place ℕ
semicolon_token types room count s = demand types room count unexpected s (semicolon s)

abbrev pub while_token : Types → ℕ → ℕ → Sight → Result Place ℕ
while_token types room count s = demand types room count unexpected s (place_if (is_word w.While s) s)

-- the word with which a statement begins that leaves a loop or a function
abbrev pub leaving_start : Sight → Option StatementStart
leaving_start s =
    if is_word w.Break s then Some start.Break
    else if is_word w.Continue s then Some start.Continue
    else if is_word w.Return s then Some (start.Return s.token.place)
    else None

-- the word or mark with which a statement begins that is no effect
abbrev pub start_of_statement : Sight → Option StatementStart
start_of_statement s =
    if is_mark p.OpenBrace s then Some start.Block
    else if is_mark p.Semicolon s then Some start.Empty
    else if is_word w.If s then Some (start.If s.token.place)
    else if is_word w.While s then Some (start.While s.token.place)
    else if is_word w.Do s then Some start.Do
    else if is_word w.For s then Some (start.For s.token.place)
    else if is_word w.Switch s then Some (start.Switch s.token.place)
    else leaving_start s

-- where it is too deep, the effect that might begin there refuses it
abbrev pub statement_token : ℕ → Sight → Result StatementStart ℕ
statement_token room s = if is_deep room 0 s then Err unexpected else found_or unexpected (start_of_statement s)

-- An `else` belongs to the nearest `if` that can take it.
abbrev pub else_token : ReadStatement → Sight → Result Place ℕ
else_token body s = found_or unexpected (place_if (is_word w.Else s && not body.takes_else) s)

abbrev pub brace_token : Types → ℕ → ℕ → Sight → Result Place ℕ
brace_token types room count s = demand types room count unexpected s (place_if (is_mark p.OpenBrace s) s)

abbrev pub after_local : Types → ℕ → LocalEnd → Sight → ℕ
after_local types room (end.Declarator declarator) s =
    if is_mark p.Comma s || is_mark p.Equal s then unexpected else after_declarator types of.Object room declarator unexpected s
after_local types room (end.Value x) s = after_expression types comma.Separates room x s

abbrev pub locals_end : Types → ℕ → LocalEnd → Sight → Result Place ℕ
locals_end types room end s = found_or (after_local types room end s) (semicolon s)

-- What is built.
abbrev pub tree_of : Operand → CExpr
tree_of x = x.tree

abbrev pub some_tree : Operand → Option CExpr
some_tree x = Some x.tree

abbrev pub local_with : ReadDeclarator → Place → Operand → ReadLocal
local_with declarator place x = record { item = record { declarator = declarator.tree; initialiser = Some (place, x.tree) }; end = end.Value x.end }

abbrev pub local_alone : ReadDeclarator → ReadLocal
local_alone declarator = record { item = record { declarator = declarator.tree; initialiser = None }; end = end.Declarator declarator.end }

abbrev pub first_local : ReadLocal → Locals
first_local first = record { items = first.item ∷ []; end = first.end }

abbrev pub plus_local : Locals → ReadLocal → Locals
plus_local all next = record { items = all.items ++ next.item ∷ []; end = next.end }

abbrev pub declared : ReadSpecifiers → Locals → LocalDeclaration
declared specifiers all = record { specifiers = specifiers.tree; declarators = all.items }

abbrev pub declaration_item : LocalDeclaration → ReadItem
declaration_item x = record { tree = item.Declaration x; takes_else = false }

abbrev pub statement_item : ReadStatement → ReadItem
statement_item x = record { tree = item.Statement x.tree; takes_else = x.takes_else }

abbrev pub no_items : BlockItems
no_items = record { items = []; takes_else = false }

abbrev pub plus_item : BlockItems → ReadItem → BlockItems
plus_item all next = record { items = all.items ++ next.tree ∷ []; takes_else = next.takes_else }

abbrev pub items_of : BlockItems → List BlockItem
items_of all = all.items

abbrev pub whole_statement : CStatement → ReadStatement
whole_statement tree = record { tree = tree; takes_else = false }

abbrev pub block : List BlockItem → ReadStatement
block items = whole_statement (s.Block items)

abbrev pub effect_of : CExpr → ReadStatement
effect_of x = whole_statement (s.Effect x)

abbrev pub if_alone : Place → CExpr → ReadStatement → ReadStatement
if_alone place condition body = record { tree = s.If place condition body.tree; takes_else = true }

abbrev pub if_else : Place → CExpr → ReadStatement → ReadStatement → ReadStatement
if_else place condition body otherwise = record { tree = s.IfElse place condition body.tree otherwise.tree; takes_else = otherwise.takes_else }

abbrev pub while_of : Place → CExpr → ReadStatement → ReadStatement
while_of place condition body = record { tree = s.While place condition body.tree; takes_else = body.takes_else }

abbrev pub do_of : ReadStatement → Place → CExpr → ReadStatement
do_of body place condition = whole_statement (s.Do body.tree place condition)

abbrev pub for_of : Place → Option CExpr → Option CExpr → Option CExpr → ReadStatement → ReadStatement
for_of place first condition third body = record { tree = s.For place first condition third body.tree; takes_else = body.takes_else }

abbrev pub case_of : SwitchLabel → BlockItems → SwitchCase
case_of label all = record { label = label; body = s.Block all.items }

abbrev pub plus_case : List SwitchCase → SwitchCase → List SwitchCase
plus_case all next = all ++ next ∷ []

abbrev pub switch_of : Place → CExpr → List SwitchCase → ReadStatement
switch_of place value cases = whole_statement (s.Switch place value cases)

abbrev pub return_of : Place → Option CExpr → ReadStatement
return_of place value = whole_statement (s.Return place value)

module _ (types : Types) where
  -- "(" expr ")"
  abbrev pub inner_condition : ℕ → Phrase Sight CExpr
  inner_condition room = do
    x ← nested types (suc room) Whole comma.LeftOut 0
    _ ← one (value_end types comma.LeftOut room close_paren x)
    pure (tree_of x)

  abbrev pub parenthesised : ℕ → ℕ → Phrase Sight CExpr
  parenthesised room count = one (open_token types room count) >> inner_condition (room - (count + 1))

  -- [effect] and the token behind it
  abbrev pub no_value : (Sight → Option Place) → Phrase Sight (Option CExpr)
  no_value ending = one (ending_token ending) >> pure None

  abbrev pub some_effect : ℕ → (Sight → Option Place) → Phrase Sight (Option CExpr)
  some_effect room ending = effect types room comma.LeftOut ending >>= λ x. pure (Some x)

  abbrev pub for_effect : ℕ → (Sight → Option Place) → Phrase Sight (Option CExpr)
  for_effect room ending = no_value ending or some_effect room ending

  -- [expr] and the token behind it
  abbrev pub some_value : ℕ → Comma → (Sight → Option Place) → Phrase Sight (Option CExpr)
  some_value room c ending = do
    x ← nested types (suc room) Whole c 0
    _ ← one (value_end types c room ending x)
    pure (some_tree x)

  abbrev pub value : ℕ → Comma → (Sight → Option Place) → Phrase Sight (Option CExpr)
  value room c ending = no_value ending or some_value room c ending

  -- dtor ["=" rhs]
  abbrev pub local_value : ℕ → ReadDeclarator → Phrase Sight ReadLocal
  local_value room declarator = one equal_token >>= λ place. barring (list_of_values room) (nested types (suc room) Whole comma.Separates 0) >>= λ x. pure (local_with declarator place x)

  abbrev pub local_rest : ℕ → ReadDeclarator → Phrase Sight ReadLocal
  local_rest room declarator = local_value room declarator or pure (local_alone declarator)

  abbrev pub local : ℕ → Phrase Sight ReadLocal
  local room = (within types (suc room)).dtor of.Object 0 >>= local_rest room

  -- specs dtor ["=" rhs] {"," dtor ["=" rhs]} ";"
  abbrev pub locals : ℕ → Phrase Sight Locals
  locals room = do
    first ← local room
    folded plus_local (λ _. one comma_token >> local room) (first_local first)

  abbrev pub locals_of : ℕ → ReadSpecifiers → Phrase Sight LocalDeclaration
  locals_of room specifiers = do
    all ← locals room
    _ ← one (locals_end types room all.end)
    pure (declared specifiers all)

  abbrev pub local_declaration : ℕ → Phrase Sight LocalDeclaration
  local_declaration room = (within types (suc room)).specs 0 >>= locals_of room

  -- specs dtor .. ";" | stmt, where `stmt` is what a statement may be
  abbrev pub declared_item : ℕ → Phrase Sight ReadItem
  declared_item room = barring (no_declaration types) (local_declaration room) >>= λ x. pure (declaration_item x)

  abbrev pub stated_item : Phrase Sight ReadStatement → Phrase Sight ReadItem
  stated_item stmt = stmt >>= λ x. pure (statement_item x)

  abbrev pub block_item : ℕ → Phrase Sight ReadStatement → Phrase Sight ReadItem
  block_item room stmt = declared_item room or stated_item stmt

  abbrev pub next_item : ℕ → Phrase Sight ReadStatement → BlockItems → Phrase Sight ReadItem
  next_item room stmt all = barring (taken_else all.takes_else) (block_item room stmt)

  -- { specs dtor .. ";" | stmt } "}"
  abbrev pub block_items : ℕ → Phrase Sight ReadStatement → Phrase Sight (List BlockItem)
  block_items room stmt = do
    all ← folded plus_item (next_item room stmt) no_items
    _ ← one brace_end
    pure (items_of all)

  -- label { stmt }
  abbrev pub next_case_item : Phrase Sight ReadStatement → BlockItems → Phrase Sight ReadItem
  next_case_item stmt all = barring (no_case_item all.takes_else) (stated_item stmt)

  abbrev pub case_items : Phrase Sight ReadStatement → Phrase Sight BlockItems
  case_items stmt = folded plus_item (next_case_item stmt) no_items

  abbrev pub switch_case : ℕ → Phrase Sight ReadStatement → Bool → Phrase Sight SwitchCase
  switch_case room stmt first = switch_label types room first >>= λ label. case_items stmt >>= λ all. pure (case_of label all)

  -- { label { stmt } } "}"
  abbrev pub switch_cases : ℕ → Phrase Sight ReadStatement → Phrase Sight (List SwitchCase)
  switch_cases room stmt = do
    all ← folded plus_case (λ all. switch_case room stmt (is_first all)) []
    _ ← one brace_end
    pure all

  -- `room` is left here, `inner` is a statement inside one word or brace more, and `second` inside two.
  module _ (room : ℕ) (inner second : Phrase Sight ReadStatement) where
    -- ["else" stmt]
    abbrev pub with_else : Place → CExpr → ReadStatement → Phrase Sight ReadStatement
    with_else place condition body = one (else_token body) >> (second >>= λ otherwise. pure (if_else place condition body otherwise))

    abbrev pub after_if : Place → CExpr → ReadStatement → Phrase Sight ReadStatement
    after_if place condition body = with_else place condition body or pure (if_alone place condition body)

    abbrev pub if_statement : Place → Phrase Sight ReadStatement
    if_statement place = parenthesised room 1 >>= λ condition. inner >>= after_if place condition

    abbrev pub while_statement : Place → Phrase Sight ReadStatement
    while_statement place = parenthesised room 1 >>= λ condition. inner >>= λ body. pure (while_of place condition body)

    -- "while" "(" expr ")" ";" behind the statement
    abbrev pub do_condition : ReadStatement → Phrase Sight ReadStatement
    do_condition body = do
      place ← one (while_token types room 1)
      condition ← parenthesised room 1
      _ ← one (semicolon_token types room 1)
      pure (do_of body place condition)

    abbrev pub do_statement : Phrase Sight ReadStatement
    do_statement = inner >>= do_condition

    abbrev pub for_statement : Place → Phrase Sight ReadStatement
    for_statement place = do
      _ ← one (open_token types room 1)
      first ← for_effect (room - 2) semicolon
      condition ← value (room - 2) comma.LeftOut semicolon
      third ← for_effect (room - 2) close_paren
      body ← inner
      pure (for_of place first condition third body)

    -- "(" expr ")" "{" { label { stmt } } "}"
    abbrev pub switch_statement : Place → Phrase Sight ReadStatement
    switch_statement place = do
      value ← parenthesised room 1
      _ ← one (brace_token types room 1)
      cases ← switch_cases (pred (pred room)) second
      pure (switch_of place value cases)

    abbrev pub after_start : StatementStart → Phrase Sight ReadStatement
    after_start start.Block = block_items (pred room) inner >>= λ items. pure (block items)
    after_start start.Empty = pure (whole_statement s.Empty)
    after_start (start.If place) = if_statement place
    after_start (start.While place) = while_statement place
    after_start start.Do = do_statement
    after_start (start.For place) = for_statement place
    after_start (start.Switch place) = switch_statement place
    after_start start.Break = one (semicolon_token types room 0) >> pure (whole_statement s.Break)
    after_start start.Continue = one (semicolon_token types room 0) >> pure (whole_statement s.Continue)
    after_start (start.Return place) = value room comma.Plain semicolon >>= λ x. pure (return_of place x)

    abbrev pub started : Phrase Sight ReadStatement
    started = one (statement_token room) >>= after_start

    -- effect ";"
    abbrev pub effect_statement : Phrase Sight ReadStatement
    effect_statement = barring label (effect types room comma.Plain semicolon) >>= λ x. pure (effect_of x)

    abbrev pub statement : Phrase Sight ReadStatement
    statement = started or effect_statement

-- Statements where `n` less one is left: none where nothing is.
abbrev pub no_statement : Phrase Sight ReadStatement
no_statement = one (λ s. Err (without_room 0 s))

unfoldable pub statements : Types → ℕ → Phrase Sight ReadStatement
statements types zero = no_statement
statements types (suc zero) = statement types zero no_statement no_statement
statements types (suc (suc room)) = statement types (suc room) (statements types (suc room)) (statements types room)
