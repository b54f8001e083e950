-- How the operators of terms and formulas group: a row of operands is split at its weakest operators, and what stands
-- between them is a row of stronger ones alone, which is split in turn. Where operators of one strength stand in a row,
-- the row stays whole.
use Rattle.std.specs.Prelude.{ℕ, ◌-◌, Bool, true, false, if◌then◌else◌, List, [], ◌∷◌, length, map, take, drop, Option, Some, None}
use Rattle.std.specs.List.{prefix_len}
use Rattle.floyd_text.specs.declared.place.Place.{Place}
use Rattle.floyd_termread_trees.specs.declared.written.Infix.{Infix}
use Rattle.floyd_termread_trees.specs.declared.written.Prefix.{Prefix}
use Rattle.floyd_termread_trees.specs.declared.written.Prefix.TheVariants as prefix
use Rattle.floyd_termread_trees.specs.declared.written.Written as w
use Rattle.floyd_termread_groups.specs.declared.grouped.Grouped.{Grouped}
use Rattle.floyd_termread_groups.specs.declared.grouped.Grouped as g
use Rattle.floyd_termread_groups.specs.declared.grouped.GroupedLink.{GroupedLink}
use Rattle.floyd_termread_groups.specs.declared.grouped.Strength.{Strength}
use Rattle.floyd_termread_groups.specs.declared.strengths.Level.{Level}
use Rattle.floyd_termread_groups.specs.declared.strengths.Level.TheVariants as level
use Rattle.floyd_termread_groups.specs.Strengths.{has_strength, table}

-- an operand with the operators directly before it
pub record Operand : Type 0 where
  pub prefixes : List Prefix
  pub atom : Grouped

-- an operator with the operand behind it
pub record Step : Type 0 where
  pub op : Infix
  pub place : Place
  pub operand : Operand

-- Operators before an operand.
abbrev pub prefixed : List Prefix → Grouped → Grouped
prefixed [] x = x
prefixed (p ∷ ps) x = g.Prefixed (p ∷ ps) x

-- those of a formula come before every "-"
abbrev pub is_of_formula : Prefix → Bool
is_of_formula (prefix.Minus place) = false
is_of_formula rest = true

abbrev pub of_formula : List Prefix → List Prefix
of_formula prefixes = take (prefix_len is_of_formula prefixes) prefixes

abbrev pub of_term : List Prefix → List Prefix
of_term prefixes = drop (prefix_len is_of_formula prefixes) prefixes

-- A "-" directly before a number is part of the number.
abbrev pub sign_of : Prefix → Option Place
sign_of (prefix.Minus at) = Some at
sign_of rest = None

abbrev pub sign : List Prefix → Option Place
sign [] = None
sign (p ∷ []) = sign_of p
sign (p ∷ q ∷ ps) = sign (q ∷ ps)

abbrev pub all_but_last : List Prefix → List Prefix
all_but_last prefixes = take (length prefixes - 1) prefixes

abbrev pub number : Option Place → List Prefix → ℕ → Place → Grouped
number None prefixes value place = prefixed prefixes (g.Literal None value place)
number (Some at) prefixes value place = prefixed (all_but_last prefixes) (g.Literal (Some at) value place)

abbrev pub plain_number : Grouped → Option (ℕ × Place)
plain_number (g.Literal None value place) = Some (value, place)
plain_number rest = None

abbrev pub with_sign : Option (ℕ × Place) → List Prefix → Grouped → Grouped
with_sign (Some found) prefixes x = number (sign prefixes) prefixes found.0 found.1
with_sign None prefixes x = prefixed prefixes x

abbrev pub signed : List Prefix → Grouped → Grouped
signed [] x = x
signed (p ∷ ps) x = with_sign (plain_number x) (p ∷ ps) x

-- A row. Up to the first operator that is so strong; and each such operator with what follows up to the next.
abbrev pub until : Strength → List Step → List Step
until strength [] = []
until strength (x ∷ xs) = if has_strength strength x.op then [] else x ∷ until strength xs

abbrev pub parts : Strength → List Step → List (Step × List Step)
parts strength [] = []
parts strength (x ∷ xs) = if has_strength strength x.op then (x, until strength xs) ∷ parts strength xs else parts strength xs

abbrev pub joined : Strength → Grouped → List GroupedLink → Grouped
joined strength x [] = x
joined strength x (y ∷ ys) = g.Row strength x (y ∷ ys)

-- an operator with the row behind it
abbrev pub link : (Operand → List Step → Grouped) → Step × List Step → GroupedLink
link inner part = record { «infix» = (part.0).op; place = (part.0).place; operand = inner (part.0).operand part.1 }

-- The operands between operators of these levels: a row at the weakest of them, or else one of stronger ones. Operators
-- before a formula stand before all that is stronger.
unfoldable pub row : List Level → Operand → List Step → Grouped
row [] x steps = signed x.prefixes x.atom
row (level.Between strength ∷ stronger) x steps = joined strength (row stronger x (until strength steps)) (map (link (row stronger)) (parts strength steps))
row (level.Before ∷ stronger) x steps = prefixed (of_formula x.prefixes) (row stronger (record x { prefixes = of_term x.prefixes }) steps)

abbrev pub operand_of : List Prefix → Grouped → Operand
operand_of prefixes atom = record { prefixes = prefixes; atom = atom }

abbrev pub step_of : Infix → Place → Operand → Step
step_of op place operand = record { op = op; place = place; operand = operand }

abbrev pub alone : Grouped → Operand
alone x = operand_of [] x

abbrev mutual
  -- a tree as an operand of a row
  pub operand : w.Written → Operand
  operand w.Missing = alone g.Missing
  operand (w.Literal value place) = alone (g.Literal None value place)
  operand (w.Name name) = alone (g.Name name)
  operand (w.Word word place) = alone (g.Word word place)
  operand (w.Struct place tag) = alone (g.Struct place tag)
  operand (w.Field place name) = alone (g.Field place name)
  operand (w.Bracket' opening place shape items close) = alone (g.Bracket opening place (all_grouped items) close)
  operand (w.Prefixed' prefixes p (w.more_of-Written x w.end_of-Written)) = operand_of prefixes (row table (operand x) [])
  operand (w.Chain' p (w.more_of-Written x w.end_of-Written) shape links) = alone (row table (operand x) (steps links))

  pub all_grouped : {m : _} → w.Row_of-Written m → List Grouped
  all_grouped w.end_of-Written = []
  all_grouped (w.more_of-Written x xs) = row table (operand x) [] ∷ all_grouped xs

  pub steps : {m : _} → w.Row_of-Link m → List Step
  steps w.end_of-Link = []
  steps (w.more_of-Link op place x rest) = step_of op place (operand x) ∷ steps rest

-- A tree is a row of itself alone.
abbrev pub grouped : w.Written → Grouped
grouped tree = row table (operand tree) []
