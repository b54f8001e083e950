-- Readers of terms, formulas, types and paths, of the shape of their grammar. They decide by the next token.
use Rattle.std.specs.Prelude.{ℕ, zero, suc, ◌+◌, pred, Bool, true, false, Err, Option, Some, None}
use Rattle.floyd_text.specs.declared.place.Place.{Place}
use Rattle.floyd_lex.specs.declared.kinds.Punctuator.TheVariants as p
use Rattle.floyd_lex.specs.Token.{Token}
use Rattle.floyd_grammar.specs.ParseClauses.{Parser, one, pure, ◌>>=◌, ◌>>◌, either, folded}
use Rattle.floyd_cparse_trees.specs.declared.types.Identifier.{Identifier}
use Rattle.floyd_cparse_tokens.specs.Tokens.{is_there}
use Rattle.floyd_termread_trees.specs.declared.words.Word.{Word}
use Rattle.floyd_termread_trees.specs.declared.written.Opening.TheVariants as opening
use Rattle.floyd_termread_trees.specs.declared.written.Prefix.{Prefix}
use Rattle.floyd_termread_trees.specs.declared.written.Prefix.TheVariants as prefix
use Rattle.floyd_termread_tokens.specs.Tokens.{is_mark, without_room}
use Rattle.floyd_termread_sorts.specs.SortClauses.{quantified}
use Rattle.floyd_termread_grammar.specs.declared.values.Atom.{Atom}
use Rattle.floyd_termread_grammar.specs.declared.values.Chain.{Chain}
use Rattle.floyd_termread_tables.specs.declared.values.Class.{Class}
use Rattle.floyd_termread_tables.specs.declared.values.Class.TheVariants as class
use Rattle.floyd_termread_grammar.specs.declared.values.Contents.{Contents}
use Rattle.floyd_termread_grammar.specs.declared.values.Filled.{Filled}
use Rattle.floyd_termread_tables.specs.declared.values.Form.{Form}
use Rattle.floyd_termread_tables.specs.declared.values.Form.TheVariants as form
use Rattle.floyd_termread_tables.specs.declared.values.LinkStart.{LinkStart}
use Rattle.floyd_termread_grammar.specs.declared.values.Operand.{Operand}
use Rattle.floyd_termread_grammar.specs.declared.values.Prefixes.{Prefixes}
use Rattle.floyd_termread_tables.specs.declared.values.PrefixStart.{PrefixStart}
use Rattle.floyd_termread_tables.specs.declared.values.PrefixStart.TheVariants as prefix_start
use Rattle.floyd_termread_tables.specs.declared.values.Start.{Start}
use Rattle.floyd_termread_tables.specs.declared.values.Start.TheVariants as start
use Rattle.floyd_termread_grammar.specs.declared.values.StepStart.{StepStart}
use Rattle.floyd_termread_grammar.specs.declared.values.StepStart.TheVariants as step_start
use Rattle.floyd_termread_tables.specs.declared.values.Want.{Want}
use Rattle.floyd_termread_tables.specs.declared.values.Want.TheVariants as want
use Rattle.floyd_termread_tables.specs.Operators.{infix_for, want_behind, must_relate}
use Rattle.floyd_termread_tables.specs.Brackets.{first_want}
use Rattle.floyd_termread_grammar.specs.Terms.{begins_prefix, prefix_token, operand_token, no_prefixes, plus_prefix, with_prefixes, first_link, plus_link, link_token, chain_operand, side_end, no_items, plus_item, first_item, more_items, separator_token, want_of_next, bracket_end, is_empty_end, empty_end, filled, bracket_atom, atom, name_atom, missing_atom, struct_atom, path_atom, call_token, open_token, tag_token, count_in, step_at, step_token, field_operand, bracket_operand, steps_end}

-- an operator goes on with the chain
abbrev pub begins_link : Chain → Token → Bool
begins_link chain t = is_there (infix_for chain.end.kind t)

-- a chain, if it is whole
abbrev pub chain_read : ℕ → Chain → Bool → Parser Token Operand
chain_read room all true = one (side_end room all)
chain_read room all false = pure (chain_operand all)

-- `room` is left here, and `inner` reads what is wanted one bracket further in, by the operators before it.
module _ (room : ℕ) (inner : Want → ℕ → Parser Token Operand) where
  -- reading { "," reading }
  abbrev pub next_item : Form → Contents → Parser Token Operand
  next_item of all = one (separator_token of all) >> inner (want_of_next of all) all.end.count

  unfoldable pub contents : Form → ℕ → Parser Token Contents
  contents of count = inner (first_want of) count >>= λ first. folded (more_items of) plus_item (next_item of) (first_item first)

  unfoldable pub some_contents : Form → ℕ → Parser Token Filled
  some_contents of count = do
    all ← contents of count
    close ← one (bracket_end (pred room) of all)
    pure (filled all close)

  unfoldable pub no_contents : Form → ℕ → Parser Token Filled
  no_contents of count = one (empty_end of) >>= λ close. pure (filled (no_items count) (Some close))

  -- [ reading { "," reading } ] ")"
  unfoldable pub bracket : Form → ℕ → Parser Token Filled
  bracket of count = either (is_empty_end of) (no_contents of count) (some_contents of count)

  -- "(" terms ")" behind a name
  unfoldable pub call : Identifier → ℕ → Parser Token Atom
  call name count = do
    opened ← one (call_token room count)
    all ← bracket form.Terms (count_in class.Term count)
    pure (bracket_atom (opening.Call name) class.Term opened all)

  -- "(" .. ")" behind a word
  unfoldable pub after_open : Word → Form → Class → Place → ℕ → Option Place → Parser Token Atom
  after_open word of is place count None = pure (missing_atom count)
  after_open word of is place count (Some opened) = bracket of (count_in is count) >>= λ all. pure (bracket_atom (opening.Word word place) is opened all)

  unfoldable pub form_of : Word → Form → Class → Place → ℕ → Parser Token Atom
  form_of word of is place count = one (open_token room count) >>= after_open word of is place count

  unfoldable pub name_or_call : Identifier → ℕ → Parser Token Atom
  name_or_call name count = either (is_mark p.OpenParen) (call name count) (pure (name_atom name count))

  unfoldable pub after_start : ℕ → Start → Parser Token Atom
  after_start count (start.Alone tree of) = pure (atom tree of count)
  after_start count (start.Name name) = name_or_call name count
  after_start count (start.Open opens of is place) = bracket of count >>= λ all. pure (bracket_atom opens is place all)
  after_start count (start.Word word of is place) = form_of word of is place count
  after_start count (start.Path place) = inner (want.Steps place) count >>= λ x. pure (path_atom x)
  after_start count (start.Struct place) = one (tag_token room count) >>= λ tag. pure (struct_atom place count tag)

  -- "-" | "not" | "forall" binders "." | "exists" binders "."
  unfoldable pub after_prefix : Prefixes → PrefixStart → Parser Token Prefix
  after_prefix all (prefix_start.Minus place) = pure (prefix.Minus place)
  after_prefix all (prefix_start.Not place) = pure (prefix.Not place)
  after_prefix all (prefix_start.Forall place) = quantified room all.count (all.count + all.run + 1) >>= λ binders. pure (prefix.Forall place binders)
  after_prefix all (prefix_start.Exists place) = quantified room all.count (all.count + all.run + 1) >>= λ binders. pure (prefix.Exists place binders)

  unfoldable pub one_prefix : Prefixes → Parser Token Prefix
  one_prefix all = one (prefix_token room all) >>= after_prefix all

  unfoldable pub prefixes : Want → ℕ → Parser Token Prefixes
  prefixes wanted count = folded begins_prefix plus_prefix one_prefix (no_prefixes wanted count)

  unfoldable pub one_atom : Prefixes → Parser Token Atom
  one_atom all = one (operand_token room all) >>= after_start all.count

  unfoldable pub operand : Want → ℕ → Parser Token Operand
  operand wanted count = do
    all ← prefixes wanted count
    x ← one_atom all
    pure (with_prefixes all x)

  -- operand { infix operand }
  unfoldable pub one_link : Chain → Parser Token (LinkStart × Operand)
  one_link chain = one (link_token room chain) >>= λ next. operand (want_behind next.op) (chain.end.count + 1) >>= λ x. pure (next, x)

  unfoldable pub links : Want → ℕ → Parser Token Chain
  links wanted count = operand wanted count >>= λ first. folded begins_link plus_link one_link (first_link first)

  -- a chain that is no side of a relation still to come
  unfoldable pub finish_chain : Chain → Parser Token Operand
  finish_chain all = chain_read room all (must_relate all.end.kind)

  unfoldable pub chain : Want → ℕ → Parser Token Operand
  chain wanted count = links wanted count >>= finish_chain

  -- "." name | "[" term "]"
  unfoldable pub after_step : ℕ → StepStart → Parser Token Operand
  after_step count (step_start.Dot place) = one (tag_token room count) >>= λ name. pure (field_operand place count name)
  after_step count (step_start.Open place) = bracket form.Subscript count >>= λ all. pure (bracket_operand opening.Subscript place all)

  unfoldable pub one_step : Contents → Parser Token Operand
  one_step all = one (step_token room all) >>= after_step all.end.count

  unfoldable pub step_list : ℕ → Parser Token Contents
  step_list count = folded (λ all t. is_there (step_at t)) plus_item one_step (no_items count)

  unfoldable pub steps : Place → ℕ → Parser Token Operand
  steps place count = do
    all ← step_list count
    close ← one (steps_end room all)
    pure (bracket_operand opening.Path place (filled all close))

  unfoldable pub reading : Want → ℕ → Parser Token Operand
  reading (want.Steps place) count = steps place count
  reading rest count = chain rest count

-- What is wanted, where `n` less one brackets are left: nothing where nothing is.
unfoldable pub nested : ℕ → Want → ℕ → Parser Token Operand
nested zero wanted count = one (λ t. Err (without_room count t))
nested (suc room) wanted count = reading room (nested room) wanted count
