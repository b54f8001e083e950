-- A law of grouping: the grouping of a row is the only tree that has the row's operands and operators in their order and is
-- grouped by strength.
use Rattle.std.specs.Prelude.{◌≡◌, ℕ, ◌<◌, Bool, true, false, if◌then◌else◌, List, [], ◌∷◌, ◌++◌, Some, None}
use Rattle.std.specs.List.{list_all}
use Rattle.floyd_termread_trees.specs.declared.written.Prefix.{Prefix}
use Rattle.floyd_termread_trees.specs.declared.written.Prefix.TheVariants as prefix
use Rattle.floyd_termread_groups.specs.declared.grouped.Grouped as g
use Rattle.floyd_termread_groups.specs.declared.grouped.Strength.{Strength}
use Rattle.floyd_termread_groups.specs.declared.grouped.Strength.TheVariants as s
use Rattle.floyd_termread_groups.specs.Strengths.{strength_of, table}
use Rattle.floyd_termread_groups.specs.Groups.{Operand, Step, is_of_formula, plain_number, operand_of, alone, step_of, row}

-- How strong a tree is: a row as its operators are, what operators stand before as they are, and else stronger than all.
abbrev pub rank_of : Strength → ℕ
rank_of s.Implies = 0
rank_of s.Or = 1
rank_of s.And = 2
rank_of s.Relation = 4
rank_of s.Cons = 5
rank_of s.Append = 6
rank_of s.Sum = 7
rank_of s.Product = 8

abbrev pub rank_before : List Prefix → ℕ
rank_before [] = 3
rank_before (p ∷ ps) = if is_of_formula p then 3 else 9

abbrev pub rank : g.Grouped → ℕ
rank (g.Row' strength p x shape links) = rank_of strength
rank (g.Prefixed' prefixes p x) = rank_before prefixes
rank rest = 10

-- The operands of a row and the operators between them, up to the next bracket.
abbrev pub behind_all : List Prefix → Operand → Operand
behind_all prefixes x = operand_of (prefixes ++ x.prefixes) x.atom

abbrev pub first_in : g.Grouped → Operand
first_in (g.Literal (Some at) value place) = operand_of (prefix.Minus at ∷ []) (g.Literal None value place)
first_in (g.Prefixed' prefixes p (g.more_of-Grouped x g.end_of-Grouped)) = behind_all prefixes (first_in x)
first_in (g.Row' strength p (g.more_of-Grouped x g.end_of-Grouped) shape links) = first_in x
first_in x = alone x

abbrev mutual
  pub rest_in : g.Grouped → List Step
  rest_in (g.Prefixed' prefixes p (g.more_of-Grouped x g.end_of-Grouped)) = rest_in x
  rest_in (g.Row' strength p (g.more_of-Grouped x g.end_of-Grouped) shape links) = rest_in x ++ rest_in_links links
  rest_in x = []

  pub rest_in_links : {m : _} → g.Row_of-GroupedLink m → List Step
  rest_in_links g.end_of-GroupedLink = []
  rest_in_links (g.more_of-GroupedLink op place x links) = step_of op place (first_in x) ∷ (rest_in x ++ rest_in_links links)

-- Operators of a formula stand before what is stronger, and "-" before what is no row and no plain number.
abbrev pub is_minus : Prefix → Bool
is_minus (prefix.Minus place) = true
is_minus rest = false

abbrev pub StandsBefore : Bool → List Prefix → g.Grouped → Type 0
StandsBefore true prefixes x = (list_all is_of_formula prefixes ≡ true) × (3 < rank x)
StandsBefore false prefixes x = (list_all is_minus prefixes ≡ true) × (rank x ≡ 10) × (plain_number x ≡ None)

-- A row has an operator, all are of its strength, and its operands are stronger.
abbrev mutual
  pub ByStrength : g.Grouped → Type 0
  ByStrength (g.Prefixed' [] p x) = ⊥
  ByStrength (g.Prefixed' (first ∷ more) p (g.more_of-Grouped x g.end_of-Grouped)) = StandsBefore (is_of_formula first) more x × ByStrength x
  ByStrength (g.Row' strength p (g.more_of-Grouped x g.end_of-Grouped) [] links) = ⊥
  ByStrength (g.Row' strength p (g.more_of-Grouped x g.end_of-Grouped) (one ∷ shape) links) = (rank_of strength < rank x) × ByStrength x × LinksByStrength strength links
  ByStrength rest = Unit {0}

  pub LinksByStrength : {m : _} → Strength → g.Row_of-GroupedLink m → Type 0
  LinksByStrength strength g.end_of-GroupedLink = Unit {0}
  LinksByStrength strength (g.more_of-GroupedLink op place x links) = (strength_of op ≡ strength) × (rank_of strength < rank x) × ByStrength x × LinksByStrength strength links

abbrev pub IsOnlyGrouping : Type 0
IsOnlyGrouping = (tree : g.Grouped) → ByStrength tree → row table (first_in tree) (rest_in tree) ≡ tree
