-- Readers of statements, of the shape of their grammar. They decide by the next token.
use Rattle.std.specs.Prelude.{ℕ, zero, suc, ◌+◌, ◌-◌, pred, Bool, not, ◌&&◌, ◌||◌, if◌then◌else◌, Option, Some, None, Err, List, [], ◌∷◌}
use Rattle.floyd_text.specs.declared.place.Place.{Place}
use Rattle.floyd_lex.specs.declared.kinds.Punctuator.TheVariants as p
use Rattle.floyd_lex.specs.declared.kinds.Keyword.TheVariants as w
use Rattle.floyd_cparse_trees.specs.declared.expressions.CExpr.{CExpr}
use Rattle.floyd_cparse_trees.specs.declared.statements.BlockItem.{BlockItem}
use Rattle.floyd_cparse_trees.specs.declared.statements.CStatement.TheVariants as s
use Rattle.floyd_cparse_trees.specs.declared.statements.LocalDeclaration.{LocalDeclaration}
use Rattle.floyd_cparse_trees.specs.declared.statements.SwitchCase.{SwitchCase}
use Rattle.floyd_cparse_statements.specs.declared.values.BlockItems.{BlockItems}
use Rattle.floyd_cparse_expressions.specs.declared.values.Comma.{Comma}
use Rattle.floyd_cparse_expressions.specs.declared.values.Comma.TheVariants as comma
use Rattle.floyd_cparse_types.specs.declared.values.Declared.TheVariants as of
use Rattle.floyd_cparse_statements.specs.declared.values.ForHead.{ForHead}
use Rattle.floyd_cparse_statements.specs.declared.values.Locals.{Locals}
use Rattle.floyd_cparse_expressions.specs.declared.values.Operand.{Operand}
use Rattle.floyd_cparse_types.specs.declared.values.ReadDeclarator.{ReadDeclarator}
use Rattle.floyd_cparse_statements.specs.declared.values.ReadItem.{ReadItem}
use Rattle.floyd_cparse_statements.specs.declared.values.ReadLocal.{ReadLocal}
use Rattle.floyd_cparse_types.specs.declared.values.ReadSpecifiers.{ReadSpecifiers}
use Rattle.floyd_cparse_statements.specs.declared.values.ReadStatement.{ReadStatement}
use Rattle.floyd_cparse_statements.specs.declared.values.StatementStart.{StatementStart}
use Rattle.floyd_cparse_statements.specs.declared.values.StatementStart.TheVariants as start
use Rattle.floyd_cparse_tokens.specs.Tokens.{without_room, Sight, Types, is_mark, is_word, is_deep}
use Rattle.floyd_grammar.specs.ParseClauses.{Parser, one, pure, either, barring, folded, ◌>>=◌, ◌>>◌}
use Rattle.floyd_cparse_tokens.specs.Tokens.{is_there}
use Rattle.floyd_cparse_types.specs.TypeClauses.{within}
use Rattle.floyd_cparse_expressions.specs.Expressions.{Whole, close_paren, open_token}
use Rattle.floyd_cparse_expressions.specs.ExpressionClauses.{nested, effect}
use Rattle.floyd_cparse_statements.specs.Labels.{is_label_word}
use Rattle.floyd_cparse_statements.specs.LabelClauses.{switch_label}
use Rattle.floyd_cparse_statements.specs.Statements.{label, begins_declaration, no_declaration, list_of_values, is_taken_else, taken_else, semicolon, comma_token, equal_token, brace_end, no_case_item, is_first, brace_token, case_of, plus_case, switch_of, ending_token, value_end, semicolon_token, while_token, start_of_statement, statement_token, else_token, locals_end, tree_of, some_tree, local_with, local_alone, first_local, plus_local, declared, declaration_item, statement_item, no_items, plus_item, items_of, whole_statement, block, effect_of, if_alone, if_else, while_of, do_of, for_of, return_of}

-- the cause for which the next token is barred
abbrev pub barred_next : (Sight → Option ℕ) → List Sight → Option ℕ
barred_next bars [] = None
barred_next bars (s ∷ ss) = bars s

abbrev pub is_ending : (Sight → Option Place) → Sight → Bool
is_ending ending s = is_there (ending s)

abbrev pub begins_item : BlockItems → Sight → Bool
begins_item all s = not (is_mark p.CloseBrace s || is_taken_else all.takes_else s)

abbrev pub begins_case_item : BlockItems → Sight → Bool
begins_case_item all s = not (is_mark p.CloseBrace s || (is_label_word s || is_taken_else all.takes_else s))

abbrev pub begins_case : List SwitchCase → Sight → Bool
begins_case all s = if is_first all then not (is_mark p.CloseBrace s) else is_label_word s

abbrev pub begins_else : ReadStatement → Sight → Bool
begins_else body s = is_word w.Else s && not body.takes_else

abbrev pub begins_started : ℕ → Sight → Bool
begins_started room s = is_there (start_of_statement s) && not (is_deep room 0 s)

module _ (types : Types) where
  -- "(" expr ")"
  unfoldable pub inner_condition : ℕ → Parser Sight CExpr
  inner_condition room = do
    x ← nested types (suc room) Whole comma.LeftOut 0
    _ ← one (value_end types comma.LeftOut room close_paren x)
    pure (tree_of x)

  unfoldable pub parenthesised : ℕ → ℕ → Parser Sight CExpr
  parenthesised room count = one (open_token types room count) >> inner_condition (room - (count + 1))

  -- [effect] and the token behind it
  unfoldable pub no_value : (Sight → Option Place) → Parser Sight (Option CExpr)
  no_value ending = one (ending_token ending) >> pure None

  unfoldable pub some_effect : ℕ → (Sight → Option Place) → Parser Sight (Option CExpr)
  some_effect room ending = effect types room comma.LeftOut ending >>= λ x. pure (Some x)

  unfoldable pub for_effect : ℕ → (Sight → Option Place) → Parser Sight (Option CExpr)
  for_effect room ending = either (is_ending ending) (no_value ending) (some_effect room ending)

  -- [expr] and the token behind it
  unfoldable pub some_value : ℕ → Comma → (Sight → Option Place) → Parser Sight (Option CExpr)
  some_value room c ending = do
    x ← nested types (suc room) Whole c 0
    _ ← one (value_end types c room ending x)
    pure (some_tree x)

  unfoldable pub value : ℕ → Comma → (Sight → Option Place) → Parser Sight (Option CExpr)
  value room c ending = either (is_ending ending) (no_value ending) (some_value room c ending)

  -- [effect] ";" [expr] ";" [effect] ")"
  unfoldable pub for_parts : ℕ → Parser Sight ForHead
  for_parts room = do
    first ← for_effect room semicolon
    condition ← value room comma.LeftOut semicolon
    third ← for_effect room close_paren
    pure (record { first = first; condition = condition; third = third })

  -- dtor ["=" rhs]
  abbrev pub right_side : ℕ → Parser Sight Operand
  right_side room = barring (list_of_values room) (nested types (suc room) Whole comma.Separates 0)

  unfoldable pub local_value : ℕ → ReadDeclarator → Parser Sight ReadLocal
  local_value room declarator = one equal_token >>= λ place. right_side room >>= λ x. pure (local_with declarator place x)

  unfoldable pub local_rest : ℕ → ReadDeclarator → Parser Sight ReadLocal
  local_rest room declarator = either (is_mark p.Equal) (local_value room declarator) (pure (local_alone declarator))

  unfoldable pub local : ℕ → Parser Sight ReadLocal
  local room = (within types (suc room)).dtor of.Object 0 >>= local_rest room

  abbrev pub next_local : ℕ → Parser Sight ReadLocal
  next_local room = one comma_token >> local room

  -- specs dtor ["=" rhs] {"," dtor ["=" rhs]} ";"
  unfoldable pub locals : ℕ → Parser Sight Locals
  locals room = do
    first ← local room
    folded (λ _. is_mark p.Comma) plus_local (λ _. next_local room) (first_local first)

  unfoldable pub locals_of : ℕ → ReadSpecifiers → Parser Sight LocalDeclaration
  locals_of room specifiers = do
    all ← locals room
    _ ← one (locals_end types room all.end)
    pure (declared specifiers all)

  unfoldable pub local_declaration : ℕ → Parser Sight LocalDeclaration
  local_declaration room = (within types (suc room)).specs 0 >>= locals_of room

  -- specs dtor .. ";" | stmt, where `stmt` is what a statement may be
  unfoldable pub declared_item : ℕ → Parser Sight ReadItem
  declared_item room = barring (no_declaration types) (local_declaration room) >>= λ x. pure (declaration_item x)

  unfoldable pub stated_item : Parser Sight ReadStatement → Parser Sight ReadItem
  stated_item stmt = stmt >>= λ x. pure (statement_item x)

  unfoldable pub block_item : ℕ → Parser Sight ReadStatement → Parser Sight ReadItem
  block_item room stmt = either (begins_declaration types) (declared_item room) (stated_item stmt)

  unfoldable pub next_item : ℕ → Parser Sight ReadStatement → BlockItems → Parser Sight ReadItem
  next_item room stmt all = barring (taken_else all.takes_else) (block_item room stmt)

  -- { specs dtor .. ";" | stmt } "}"
  abbrev pub all_items : ℕ → Parser Sight ReadStatement → Parser Sight BlockItems
  all_items room stmt = folded begins_item plus_item (next_item room stmt) no_items

  unfoldable pub block_items : ℕ → Parser Sight ReadStatement → Parser Sight (List BlockItem)
  block_items room stmt = do
    all ← all_items room stmt
    _ ← one brace_end
    pure (items_of all)

  -- label { stmt }
  unfoldable pub next_case_item : Parser Sight ReadStatement → BlockItems → Parser Sight ReadItem
  next_case_item stmt all = barring (no_case_item all.takes_else) (stated_item stmt)

  abbrev pub case_items : Parser Sight ReadStatement → Parser Sight BlockItems
  case_items stmt = folded begins_case_item plus_item (next_case_item stmt) no_items

  unfoldable pub switch_case : ℕ → Parser Sight ReadStatement → Bool → Parser Sight SwitchCase
  switch_case room stmt first = switch_label types room first >>= λ label. case_items stmt >>= λ all. pure (case_of label all)

  -- { label { stmt } } "}"
  abbrev pub all_cases : ℕ → Parser Sight ReadStatement → Parser Sight (List SwitchCase)
  all_cases room stmt = folded begins_case plus_case (λ all. switch_case room stmt (is_first all)) []

  unfoldable pub switch_cases : ℕ → Parser Sight ReadStatement → Parser Sight (List SwitchCase)
  switch_cases room stmt = do
    all ← all_cases room stmt
    _ ← one brace_end
    pure all

  abbrev pub unlabelled : ℕ → Parser Sight CExpr
  unlabelled room = barring label (effect types room comma.Plain semicolon)

  -- `room` is left here, `inner` is a statement inside one word or brace more, and `second` inside two.
  module _ (room : ℕ) (inner second : Parser Sight ReadStatement) where
    -- ["else" stmt]
    unfoldable pub with_else : Place → CExpr → ReadStatement → Parser Sight ReadStatement
    with_else place condition body = one (else_token body) >> (second >>= λ otherwise. pure (if_else place condition body otherwise))

    unfoldable pub after_if : Place → CExpr → ReadStatement → Parser Sight ReadStatement
    after_if place condition body = either (begins_else body) (with_else place condition body) (pure (if_alone place condition body))

    unfoldable pub if_statement : Place → Parser Sight ReadStatement
    if_statement place = parenthesised room 1 >>= λ condition. inner >>= after_if place condition

    unfoldable pub while_statement : Place → Parser Sight ReadStatement
    while_statement place = parenthesised room 1 >>= λ condition. inner >>= λ body. pure (while_of place condition body)

    -- "while" "(" expr ")" ";" behind the statement
    unfoldable pub do_condition : ReadStatement → Parser Sight ReadStatement
    do_condition body = do
      place ← one (while_token types room 1)
      condition ← parenthesised room 1
      _ ← one (semicolon_token types room 1)
      pure (do_of body place condition)

    unfoldable pub do_statement : Parser Sight ReadStatement
    do_statement = inner >>= do_condition

    -- "(" [effect] ";" [expr] ";" [effect] ")"
    unfoldable pub for_head : Parser Sight ForHead
    for_head = one (open_token types room 1) >> for_parts (room - 2)

    unfoldable pub for_statement : Place → Parser Sight ReadStatement
    for_statement place = do
      _ ← one (open_token types room 1)
      first ← for_effect (room - 2) semicolon
      condition ← value (room - 2) comma.LeftOut semicolon
      third ← for_effect (room - 2) close_paren
      body ← inner
      pure (for_of place first condition third body)

    -- "(" expr ")" "{" { label { stmt } } "}"
    unfoldable pub switch_statement : Place → Parser Sight ReadStatement
    switch_statement place = do
      value ← parenthesised room 1
      _ ← one (brace_token types room 1)
      cases ← switch_cases (pred (pred room)) second
      pure (switch_of place value cases)

    unfoldable pub after_start : StatementStart → Parser Sight ReadStatement
    after_start start.Block = block_items (pred room) inner >>= λ items. pure (block items)
    after_start start.Empty = pure (whole_statement s.Empty)
    after_start (start.If place) = if_statement place
    after_start (start.While place) = while_statement place
    after_start start.Do = do_statement
    after_start (start.For place) = for_statement place
    after_start (start.Switch place) = switch_statement place
    after_start start.Break = one (semicolon_token types room 0) >> pure (whole_statement s.Break)
    after_start start.Continue = one (semicolon_token types room 0) >> pure (whole_statement s.Continue)
    after_start (start.Return place) = value room comma.Plain semicolon >>= λ x. pure (return_of place x)

    unfoldable pub started : Parser Sight ReadStatement
    started = one (statement_token room) >>= after_start

    -- effect ";"
    unfoldable pub effect_statement : Parser Sight ReadStatement
    effect_statement = unlabelled room >>= λ x. pure (effect_of x)

    unfoldable pub statement : Parser Sight ReadStatement
    statement = either (begins_started room) started effect_statement

-- Statements where `n` less one is left: none where nothing is.
unfoldable pub no_statement : Parser Sight ReadStatement
no_statement = one (λ s. Err (without_room 0 s))

unfoldable pub statements : Types → ℕ → Parser Sight ReadStatement
statements types zero = no_statement
statements types (suc zero) = statement types zero no_statement no_statement
statements types (suc (suc room)) = statement types (suc room) (statements types (suc room)) (statements types room)
