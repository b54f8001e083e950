-- Rows of operands with operators of one strength between them, and operators before an operand, as terms.
use Rattle.std.specs.Prelude.{Bool, true, false, if◌then◌else◌, List, [], ◌∷◌, ◌++◌, Option, Some, None, Ok, pos}
use Rattle.floyd_text.specs.declared.place.Place.{Place}
use Rattle.floyd_tree_sorts.specs.declared.heads.Head.TheVariants as h
use Rattle.floyd_tree_sorts.specs.declared.operators.Operator.{Operator}
use Rattle.floyd_tree_sorts.specs.declared.operators.Operator.TheVariants as o
use Rattle.floyd_tree_sorts.specs.declared.operators.Arguments.{Arguments}
use Rattle.floyd_tree_sorts.specs.declared.operators.Arguments.TheVariants.{Two}
use Rattle.floyd_tree_sorts.specs.declared.sorts.Sort.{Sort, Z}
use Rattle.floyd_tree_sorts.specs.Operators.{row}
use Rattle.floyd_tree.specs.Plain.{Plain}
use Rattle.floyd_tree.specs.WellSorted.{sort_of}
use Rattle.floyd_termread_trees.specs.declared.written.Infix.{Infix}
use Rattle.floyd_termread_trees.specs.declared.written.Infix.TheVariants as i
use Rattle.floyd_termread_trees.specs.declared.written.Prefix.{Prefix}
use Rattle.floyd_termread_trees.specs.declared.written.Prefix.TheVariants as before
use Rattle.floyd_termread_groups.specs.declared.grouped.Strength.{Strength}
use Rattle.floyd_termread_groups.specs.declared.grouped.Strength.TheVariants as group
use Rattle.floyd_termread_scope.specs.Scopes.{Env}
use Rattle.floyd_termread_wants.specs.declared.wants.Known.{Known}
use Rattle.floyd_termread_wants.specs.declared.wants.Wanted.{Wanted}
use Rattle.floyd_termread_wants.specs.declared.wants.Wanted.TheVariants as w
use Rattle.floyd_termread_wants.specs.Judging.{Judged, ◌>>=◌, cut_off, there}
use Rattle.floyd_termread_wants.specs.Wants.{nothing_known, learn, from_above, wanted_by, list_wanted}
use Rattle.floyd_termread_wants.specs.Making.{placed, leaf, two}
use Rattle.floyd_termread_terms.specs.declared.rows.Operand.{Operand}
use Rattle.floyd_termread_terms.specs.declared.rows.RowSoFar.{RowSoFar}
use Rattle.floyd_termread_terms.specs.Senses.{Sense, LinkSense, no_type}

abbrev pub operator_of : Infix → Option Operator
operator_of i.Cons = Some o.Cons
operator_of i.Append = Some o.Append
operator_of i.Add = Some o.Add
operator_of i.Sub = Some o.Sub
operator_of i.Mul = Some o.Mul
operator_of rest = None

-- What the sides of an operator are to be: the left one by what is expected of the whole, the right one by the left.
abbrev pub first_of : Arguments → Known → Wanted
first_of (Two p q) above = wanted_by nothing_known above p
first_of takes above = w.Any None

abbrev pub second_of : Arguments → Option Sort → Wanted
second_of (Two p q) left = wanted_by (learn nothing_known p left) nothing_known q
second_of takes left = w.Any None

abbrev pub left_wanted : Operator → Wanted → Wanted
left_wanted op wanted = first_of (row op).takes (from_above (row op).gives wanted)

abbrev pub right_wanted : Operator → Option Sort → Wanted
right_wanted op left = second_of (row op).takes left

-- The first operand of a row is the left side of this operator.
abbrev pub first_operator : List LinkSense → Option Operator
first_operator [] = None
first_operator (link ∷ links) = operator_of link.op

abbrev pub row_operator : Strength → List LinkSense → Option Operator
row_operator group.Cons links = Some o.Cons
row_operator group.Append links = first_operator links
row_operator group.Sum links = first_operator links
row_operator group.Product links = first_operator links
row_operator weaker links = None

abbrev pub first_wanted : Strength → List LinkSense → Wanted → Judged Wanted
first_wanted strength links wanted = there (row_operator strength links) >>= λ op. Ok (left_wanted op wanted)

-- The operands are read in turn. An operator that groups to the left is applied at once, and what it makes stands in the
-- place of its left side. `::` groups to the right: its operands wait until the row ends.
abbrev pub waits : Infix → Bool
waits i.Cons = true
waits other = false

abbrev pub is_end : List LinkSense → Bool
is_end [] = true
is_end (link ∷ links) = false

-- Behind `::` each operand but the last is read as an item, and the last as a list of items like the one before it.
abbrev pub operand_wanted : Bool → Option Sort → Wanted
operand_wanted true item = list_wanted item None
operand_wanted false item = w.Any item

abbrev pub side_wanted : Option Operator → Option Sort → Wanted
side_wanted None left = w.Any None
side_wanted (Some op) left = right_wanted op left

abbrev pub next_wanted : Infix → Bool → Plain → Wanted
next_wanted op last left = if waits op then operand_wanted last (sort_of left) else side_wanted (operator_of op) (sort_of left)

-- the last operator of a row makes what is wanted
abbrev pub wanted_at_end : Bool → Wanted → Wanted
wanted_at_end true wanted = wanted
wanted_at_end false wanted = w.Any None

abbrev pub begun : Place → Plain → RowSoFar
begun place x = record { waiting = []; last = record { place = place; term = x } }

abbrev pub waiting_more : RowSoFar → Operand → RowSoFar
waiting_more so_far x = record { waiting = so_far.waiting ++ so_far.last ∷ []; last = x }

abbrev pub with_whole : RowSoFar → Plain → RowSoFar
with_whole so_far x = record { waiting = so_far.waiting; last = record { place = so_far.last.place; term = x } }

abbrev pub applied_left : Infix → Bool → Wanted → RowSoFar → Operand → Judged RowSoFar
applied_left op last wanted so_far x = do
  operator ← there (operator_of op)
  whole ← placed (wanted_at_end last wanted) so_far.last.place (two operator so_far.last.term x.term)
  Ok (with_whole so_far whole)

abbrev pub with_operand : Infix → Bool → Wanted → RowSoFar → Operand → Judged RowSoFar
with_operand op last wanted so_far x = if waits op then Ok (waiting_more so_far x) else applied_left op last wanted so_far x

-- The operands that wait are made lists, the last first.
abbrev pub joined_right : Wanted → List Operand → Judged Plain
joined_right wanted [] = cut_off
joined_right wanted (x ∷ []) = Ok x.term
joined_right wanted (x ∷ y ∷ xs) = do
  rest ← joined_right (list_wanted (sort_of x.term) None) (y ∷ xs)
  placed wanted x.place (two o.Cons x.term rest)

abbrev pub operand_at : Sense → Plain → Operand
operand_at operand x = record { place = operand.place; term = x }

abbrev pub one_link : Env → Wanted → RowSoFar → Bool → LinkSense → Judged RowSoFar
one_link env wanted so_far last link = do
  x ← link.operand.term env (next_wanted link.op last so_far.last.term)
  with_operand link.op last wanted so_far (operand_at link.operand x)

abbrev pub row_from : Env → Wanted → RowSoFar → List LinkSense → Judged Plain
row_from env wanted so_far [] = joined_right wanted (so_far.waiting ++ so_far.last ∷ [])
row_from env wanted so_far (link ∷ links) = one_link env wanted so_far (is_end links) link >>= λ more. row_from env wanted more links

abbrev pub row_term : Strength → Sense → List LinkSense → Env → Wanted → Judged Plain
row_term strength first links env wanted = do
  left_side ← first_wanted strength links wanted
  x ← first.term env left_side
  row_from env wanted (begun first.place x) links

-- The sense of a row.
abbrev pub row_sense : Strength → Sense → List LinkSense → Sense
row_sense strength first links = record { place = first.place; name = None; term = row_term strength first links; type = no_type }

-- Before a term each operator is a minus: `-t` is `0 - t`.
abbrev pub negated : Wanted → Prefix → Plain → Judged Plain
negated wanted (before.Minus place) t = placed wanted place (two o.Sub (leaf (h.Literal (pos 0))) t)
negated wanted prefix t = cut_off

-- the last of them binds first
abbrev pub negated_inside : List Prefix → Plain → Judged Plain
negated_inside [] t = Ok t
negated_inside (p ∷ ps) t = negated_inside ps t >>= negated (w.This Z) p

abbrev pub negated_all : Wanted → List Prefix → Plain → Judged Plain
negated_all wanted [] t = cut_off
negated_all wanted (p ∷ ps) t = negated_inside ps t >>= negated wanted p

-- The sense of an operand with operators before it.
abbrev pub prefix_place : Prefix → Place
prefix_place (before.Minus place) = place
prefix_place (before.Not place) = place
prefix_place (before.Forall place binders) = place
prefix_place (before.Exists place binders) = place

abbrev pub first_place : List Prefix → Place → Place
first_place [] place = place
first_place (p ∷ ps) place = prefix_place p

abbrev pub prefixed_term : List Prefix → Sense → Env → Wanted → Judged Plain
prefixed_term ps operand env wanted = operand.term env (w.This Z) >>= negated_all wanted ps

abbrev pub prefixed : List Prefix → Sense → Sense
prefixed ps operand = record { place = first_place ps operand.place; name = None; term = prefixed_term ps operand; type = no_type }
