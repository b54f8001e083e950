-- The grammar of terms, formulas, types and paths. `room` and `count` are the depth at which a production's first token
-- stands. Elsewhere stands what may stand where.
--
--   reading  = chain, or in a path steps
--   chain    = operand { infix operand }
--   operand  = { "-" | "not" | "forall" binders "." | "exists" binders "." } atom
--   atom     = a number, name or word alone | name [ bracket ] | word bracket | bracket | "[" steps | "struct" name
--   bracket  = "(" [ reading { "," reading } ] ")", with "[" and "]" for a list, and ";" between types
--   steps    = { "." name | "[" term "]" } "]"
--
-- Where a text is cut off, its end stands for what is missing: an operand, with the operators before it; the bracket behind a
-- word, with the word; a name, with what stands before it; a relation behind a term that must be its side; and the end of
-- each bracket that stays open. A text that is not cut off has no such end.
use Rattle.std.specs.Prelude.{ℕ, zero, suc, ◌+◌, pred, Bool, true, false, ◌&&◌, ◌||◌, if◌then◌else◌, Option, Some, None, Result, Err, List, [], ◌∷◌, ◌++◌, length}
use Rattle.floyd_text.specs.declared.place.Place.{Place}
use Rattle.floyd_lex.specs.declared.kinds.Punctuator.TheVariants as p
use Rattle.floyd_lex.specs.Token.{Token}
use Rattle.floyd_grammar.specs.Phrase.{Phrase, one, pure, ◌>>=◌, ◌>>◌, ◌or◌, folded}
use Rattle.floyd_cparse_trees.specs.declared.types.Identifier.{Identifier}
use Rattle.floyd_cparse_tokens.specs.Tokens.{is_there, found_or}
use Rattle.floyd_termread_trees.specs.declared.words.Word.{Word}
use Rattle.floyd_termread_trees.specs.declared.written.Link.{Link}
use Rattle.floyd_termread_trees.specs.declared.written.Opening.{Opening}
use Rattle.floyd_termread_trees.specs.declared.written.Opening.TheVariants as opening
use Rattle.floyd_termread_trees.specs.declared.written.Prefix.{Prefix}
use Rattle.floyd_termread_trees.specs.declared.written.Prefix.TheVariants as prefix
use Rattle.floyd_termread_trees.specs.declared.written.Written.{Written}
use Rattle.floyd_termread_trees.specs.declared.written.Written.TheVariants as written
use Rattle.floyd_termread_tokens.specs.Tokens.{unexpected, is_mark, place_if, given_name, blame, without_room, offer, demand, unless_cut}
use Rattle.floyd_termread_sorts.specs.Sorts.{quantified}
use Rattle.floyd_termread_grammar.specs.declared.values.Atom.{Atom}
use Rattle.floyd_termread_grammar.specs.declared.values.Chain.{Chain}
use Rattle.floyd_termread_tables.specs.declared.values.Class.{Class}
use Rattle.floyd_termread_tables.specs.declared.values.Class.TheVariants as class
use Rattle.floyd_termread_grammar.specs.declared.values.Contents.{Contents}
use Rattle.floyd_termread_tables.specs.declared.values.End.{End}
use Rattle.floyd_termread_grammar.specs.declared.values.Filled.{Filled}
use Rattle.floyd_termread_tables.specs.declared.values.Form.{Form}
use Rattle.floyd_termread_tables.specs.declared.values.Form.TheVariants as form
use Rattle.floyd_termread_tables.specs.declared.values.Kind.TheVariants as kind
use Rattle.floyd_termread_tables.specs.declared.values.LinkStart.{LinkStart}
use Rattle.floyd_termread_grammar.specs.declared.values.Operand.{Operand}
use Rattle.floyd_termread_grammar.specs.declared.values.Prefixes.{Prefixes}
use Rattle.floyd_termread_tables.specs.declared.values.PrefixStart.{PrefixStart}
use Rattle.floyd_termread_tables.specs.declared.values.PrefixStart.TheVariants as prefix_start
use Rattle.floyd_termread_tables.specs.declared.values.Start.{Start}
use Rattle.floyd_termread_tables.specs.declared.values.Start.TheVariants as start
use Rattle.floyd_termread_grammar.specs.declared.values.StepStart.{StepStart}
use Rattle.floyd_termread_grammar.specs.declared.values.StepStart.TheVariants as step_start
use Rattle.floyd_termread_tables.specs.declared.values.Want.{Want}
use Rattle.floyd_termread_tables.specs.declared.values.Want.TheVariants as want
use Rattle.floyd_termread_tables.specs.Operators.{infix_for, want_behind, kind_behind, kind_of, is_formula, must_relate, goes_on, link_at}
use Rattle.floyd_termread_tables.specs.Tables.{prefix_of, start_of}
use Rattle.floyd_termread_tables.specs.Brackets.{next_want, first_want, is_enough, may_be_empty, separator, closing_mark}

abbrev pub other_end : ℕ → End
other_end count = record { kind = kind.Other; bare = false; count = count }

-- Operators before an operand.
abbrev pub no_prefixes : Want → ℕ → Prefixes
no_prefixes wanted count = record { items = []; run = 0; count = count; want = wanted; minus = false }

abbrev pub plus_prefix : Prefixes → Prefix → Prefixes
plus_prefix all (prefix.Minus place) = record all { items = all.items ++ prefix.Minus place ∷ []; run = all.run + 1; minus = true }
plus_prefix all (prefix.Not place) = record all { items = all.items ++ prefix.Not place ∷ []; run = all.run + 1; want = want.Formula }
plus_prefix all (prefix.Forall place binders) = record all { items = all.items ++ prefix.Forall place binders ∷ []; run = 0; count = all.count + 1; want = want.Formula }
plus_prefix all (prefix.Exists place binders) = record all { items = all.items ++ prefix.Exists place binders ∷ []; run = 0; count = all.count + 1; want = want.Formula }

abbrev pub begins_prefix : Prefixes → Token → Bool
begins_prefix all t = is_there (prefix_of all.want all.minus t)

abbrev pub prefix_token : ℕ → Prefixes → Token → Result PrefixStart ℕ
prefix_token room all t = offer room (all.count + all.run) t (prefix_of all.want all.minus t)

-- What is an operator before an operand is taken, or refused, there.
abbrev pub operand_token : ℕ → Prefixes → Token → Result Start ℕ
operand_token room all t = if begins_prefix all t then Err unexpected else unless_cut t (start.Alone written.Missing class.Other) (demand room (all.count + all.run) t (start_of all.want all.minus t))

abbrev pub is_missing : Written → Bool
is_missing written.Missing = true
is_missing rest = false

-- nothing stands before what is missing
abbrev pub prefixed : List Prefix → Written → Written
prefixed [] tree = tree
prefixed (first ∷ more) tree = if is_missing tree then tree else written.Prefixed (first ∷ more) tree

abbrev pub with_prefixes : Prefixes → Atom → Operand
with_prefixes all x = record { tree = prefixed all.items x.tree; end = record { kind = kind_of all.want x.class; bare = x.bare; count = x.count } }

-- Operands with operators between them.
abbrev pub first_link : Operand → Chain
first_link x = record { first = x.tree; links = []; end = x.end }

abbrev pub plus_link : Chain → LinkStart × Operand → Chain
plus_link chain next = record {
  first = chain.first;
  links = chain.links ++ record { «infix» = (next.0).op; place = (next.0).place; operand = (next.1).tree } ∷ [];
  end = record { kind = kind_behind chain.end.kind (next.0).op (next.1).end.kind; bare = (next.1).end.bare; count = (next.1).end.count };
}

abbrev pub link_token : ℕ → Chain → Token → Result LinkStart ℕ
link_token room chain t = offer room chain.end.count t (link_at t.place (infix_for chain.end.kind t))

abbrev pub linked : Written → List Link → Written
linked tree [] = tree
linked tree (first ∷ more) = written.Chain tree (first ∷ more)

abbrev pub chain_operand : Chain → Operand
chain_operand chain = record { tree = linked chain.first chain.links; end = chain.end }

-- a side of a relation without the relation: nothing goes on with it where the text is cut off
abbrev pub cut_side : Chain → Operand
cut_side chain = record { tree = linked chain.first chain.links; end = other_end chain.end.count }

abbrev pub side_end : ℕ → Chain → Token → Result Operand ℕ
side_end room chain t = unless_cut t (cut_side chain) (Err (if goes_on chain.end t then unexpected else blame room chain.end.count t))

-- What stands in a bracket.
abbrev pub no_items : ℕ → Contents
no_items count = record { items = []; end = other_end count }

abbrev pub plus_item : Contents → Operand → Contents
plus_item all x = record { items = all.items ++ x.tree ∷ []; end = x.end }

abbrev pub first_item : Operand → Contents
first_item x = record { items = x.tree ∷ []; end = x.end }

abbrev pub more_items : Form → Contents → Token → Bool
more_items of all t = is_there (next_want of (length all.items) all.end.kind) && is_mark (separator of) t

abbrev pub separator_token : Form → Contents → Token → Result Place ℕ
separator_token of all t = found_or unexpected (place_if (more_items of all t) t)

abbrev pub wanted : Option Want → Want
wanted None = want.Term
wanted (Some x) = x

abbrev pub want_of_next : Form → Contents → Want
want_of_next of all = wanted (next_want of (length all.items) all.end.kind)

-- the place of a token that is there
abbrev pub known_place : Option Place → Option (Option Place)
known_place None = None
known_place (Some place) = Some (Some place)

abbrev pub closing_place : Form → Contents → Token → Option (Option Place)
closing_place of all t = known_place (place_if (is_enough of (length all.items) && is_mark (closing_mark of) t) t)

-- what goes on is refused, if at all, there
abbrev pub bracket_end : ℕ → Form → Contents → Token → Result (Option Place) ℕ
bracket_end room of all t = unless_cut t None (found_or (if more_items of all t || goes_on all.end t then unexpected else blame room all.end.count t) (closing_place of all t))

abbrev pub is_empty_end : Form → Token → Bool
is_empty_end of t = may_be_empty of && is_mark (closing_mark of) t

abbrev pub empty_end : Form → Token → Result Place ℕ
empty_end of t = found_or unexpected (place_if (is_empty_end of t) t)

abbrev pub filled : Contents → Option Place → Filled
filled all close = record { items = all.items; end = all.end; close = close }

abbrev pub class_in : Class → Filled → Class
class_in of all = if is_formula all.end.kind then class.Formula else of

abbrev pub bracket_atom : Opening → Class → Place → Filled → Atom
bracket_atom opens of place all = record { tree = written.Bracket opens place all.items all.close; class = class_in of all; bare = false; count = all.end.count }

-- Atoms.
abbrev pub atom : Written → Class → ℕ → Atom
atom tree of count = record { tree = tree; class = of; bare = false; count = count }

abbrev pub name_atom : Identifier → ℕ → Atom
name_atom name count = record { tree = written.Name name; class = class.Term; bare = true; count = count }

abbrev pub missing_atom : ℕ → Atom
missing_atom count = atom written.Missing class.Other count

abbrev pub struct_atom : Place → ℕ → Option Identifier → Atom
struct_atom place count None = missing_atom count
struct_atom place count (Some tag) = atom (written.Struct place tag) class.Other count

abbrev pub path_atom : Operand → Atom
path_atom x = atom x.tree class.Other x.end.count

abbrev pub call_token : ℕ → ℕ → Token → Result Place ℕ
call_token room count t = offer room count t (place_if (is_mark p.OpenParen t) t)

abbrev pub open_token : ℕ → ℕ → Token → Result (Option Place) ℕ
open_token room count t = unless_cut t None (demand room count t (known_place (place_if (is_mark p.OpenParen t) t)))

abbrev pub known_name : Option Identifier → Option (Option Identifier)
known_name None = None
known_name (Some name) = Some (Some name)

abbrev pub tag_token : ℕ → ℕ → Token → Result (Option Identifier) ℕ
tag_token room count t = unless_cut t None (demand room count t (known_name (given_name t)))

-- the bracket behind a term's name or word counts as an operator
abbrev pub count_in : Class → ℕ → ℕ
count_in class.Term count = count + 1
count_in rest count = count

-- Steps of a path.
abbrev pub step_at : Token → Option StepStart
step_at t = if is_mark p.Dot t then Some (step_start.Dot t.place) else if is_mark p.OpenBracket t then Some (step_start.Open t.place) else None

abbrev pub step_token : ℕ → Contents → Token → Result StepStart ℕ
step_token room all t = offer room all.end.count t (step_at t)

abbrev pub field_tree : Place → Option Identifier → Written
field_tree place None = written.Missing
field_tree place (Some name) = written.Field place name

abbrev pub field_operand : Place → ℕ → Option Identifier → Operand
field_operand place count name = record { tree = field_tree place name; end = other_end count }

abbrev pub bracket_operand : Opening → Place → Filled → Operand
bracket_operand opens place all = record { tree = written.Bracket opens place all.items all.close; end = other_end all.end.count }

abbrev pub steps_end : ℕ → Contents → Token → Result (Option Place) ℕ
steps_end room all t = unless_cut t None (found_or (if is_there (step_at t) then unexpected else blame room all.end.count t) (known_place (place_if (is_mark p.CloseBracket t) t)))

-- a chain, if it is whole
abbrev pub whole_chain : ℕ → Chain → Bool → Phrase Token Operand
whole_chain room all true = one (side_end room all)
whole_chain room all false = pure (chain_operand all)

-- `room` is left here, and `inner` reads what is wanted one bracket further in, by the operators before it.
module _ (room : ℕ) (inner : Want → ℕ → Phrase Token Operand) where
  -- reading { "," reading }
  abbrev pub contents : Form → ℕ → Phrase Token Contents
  contents of count = inner (first_want of) count >>= λ first. folded plus_item (λ all. one (separator_token of all) >> inner (want_of_next of all) all.end.count) (first_item first)

  abbrev pub some_contents : Form → ℕ → Phrase Token Filled
  some_contents of count = do
    all ← contents of count
    close ← one (bracket_end (pred room) of all)
    pure (filled all close)

  abbrev pub no_contents : Form → ℕ → Phrase Token Filled
  no_contents of count = one (empty_end of) >>= λ close. pure (filled (no_items count) (Some close))

  -- [ reading { "," reading } ] ")"
  abbrev pub bracket : Form → ℕ → Phrase Token Filled
  bracket of count = no_contents of count or some_contents of count

  -- "(" terms ")" behind a name
  abbrev pub call : Identifier → ℕ → Phrase Token Atom
  call name count = do
    opened ← one (call_token room count)
    all ← bracket form.Terms (count_in class.Term count)
    pure (bracket_atom (opening.Call name) class.Term opened all)

  -- "(" .. ")" behind a word
  abbrev pub after_open : Word → Form → Class → Place → ℕ → Option Place → Phrase Token Atom
  after_open word of is place count None = pure (missing_atom count)
  after_open word of is place count (Some opened) = bracket of (count_in is count) >>= λ all. pure (bracket_atom (opening.Word word place) is opened all)

  abbrev pub form_of : Word → Form → Class → Place → ℕ → Phrase Token Atom
  form_of word of is place count = one (open_token room count) >>= after_open word of is place count

  abbrev pub after_start : ℕ → Start → Phrase Token Atom
  after_start count (start.Alone tree of) = pure (atom tree of count)
  after_start count (start.Name name) = call name count or pure (name_atom name count)
  after_start count (start.Open opens of is place) = bracket of count >>= λ all. pure (bracket_atom opens is place all)
  after_start count (start.Word word of is place) = form_of word of is place count
  after_start count (start.Path place) = inner (want.Steps place) count >>= λ x. pure (path_atom x)
  after_start count (start.Struct place) = one (tag_token room count) >>= λ tag. pure (struct_atom place count tag)

  -- "-" | "not" | "forall" binders "." | "exists" binders "."
  abbrev pub after_prefix : Prefixes → PrefixStart → Phrase Token Prefix
  after_prefix all (prefix_start.Minus place) = pure (prefix.Minus place)
  after_prefix all (prefix_start.Not place) = pure (prefix.Not place)
  after_prefix all (prefix_start.Forall place) = quantified room all.count (all.count + all.run + 1) >>= λ binders. pure (prefix.Forall place binders)
  after_prefix all (prefix_start.Exists place) = quantified room all.count (all.count + all.run + 1) >>= λ binders. pure (prefix.Exists place binders)

  abbrev pub one_prefix : Prefixes → Phrase Token Prefix
  one_prefix all = one (prefix_token room all) >>= after_prefix all

  abbrev pub prefixes : Want → ℕ → Phrase Token Prefixes
  prefixes wanted count = folded plus_prefix one_prefix (no_prefixes wanted count)

  abbrev pub one_atom : Prefixes → Phrase Token Atom
  one_atom all = one (operand_token room all) >>= after_start all.count

  abbrev pub operand : Want → ℕ → Phrase Token Operand
  operand wanted count = do
    all ← prefixes wanted count
    x ← one_atom all
    pure (with_prefixes all x)

  -- operand { infix operand }
  abbrev pub one_link : Chain → Phrase Token (LinkStart × Operand)
  one_link chain = one (link_token room chain) >>= λ next. operand (want_behind next.op) (chain.end.count + 1) >>= λ x. pure (next, x)

  abbrev pub links : Want → ℕ → Phrase Token Chain
  links wanted count = operand wanted count >>= λ first. folded plus_link one_link (first_link first)

  -- a chain that is no side of a relation still to come
  abbrev pub finish_chain : Chain → Phrase Token Operand
  finish_chain all = whole_chain room all (must_relate all.end.kind)

  abbrev pub chain : Want → ℕ → Phrase Token Operand
  chain wanted count = links wanted count >>= finish_chain

  -- "." name | "[" term "]"
  abbrev pub after_step : ℕ → StepStart → Phrase Token Operand
  after_step count (step_start.Dot place) = one (tag_token room count) >>= λ name. pure (field_operand place count name)
  after_step count (step_start.Open place) = bracket form.Subscript count >>= λ all. pure (bracket_operand opening.Subscript place all)

  abbrev pub one_step : Contents → Phrase Token Operand
  one_step all = one (step_token room all) >>= after_step all.end.count

  abbrev pub steps : Place → ℕ → Phrase Token Operand
  steps place count = do
    all ← folded plus_item one_step (no_items count)
    close ← one (steps_end room all)
    pure (bracket_operand opening.Path place (filled all close))

  abbrev pub reading : Want → ℕ → Phrase Token Operand
  reading (want.Steps place) count = steps place count
  reading rest count = chain rest count

-- What is wanted, where `n` less one brackets are left: nothing where nothing is.
unfoldable pub nested : ℕ → Want → ℕ → Phrase Token Operand
nested zero wanted count = one (λ t. Err (without_room count t))
nested (suc room) wanted count = reading room (nested room) wanted count
