-- Terms in place of variables, of several at once.
use Rattle.std.specs.Prelude.{◌≡◌, ℕ, List, [], ◌∷◌, map, Option, Some, None, bytes_eq}
use Rattle.std.specs.Map.{lookup}
use Rattle.floyd_tree_sorts.specs.declared.connectives.FormulaHead.{FormulaHead}
use Rattle.floyd_tree_sorts.specs.declared.connectives.FormulaHead.TheVariants.{Forall, Exists}
use Rattle.floyd_tree_sorts.specs.declared.heads.Head.{Head}
use Rattle.floyd_tree_sorts.specs.declared.heads.Head.TheVariants.{Variable}
use Rattle.floyd_tree_sorts.specs.declared.sorts.Sort.{Sort}
use Rattle.floyd_tree.specs.Formulas.{PlainFormula, PlainFormulas, Says, NoFormula, MoreFormulas}
use Rattle.floyd_tree.specs.Plain.{Plain, Plains, At, Done, More}
use Rattle.floyd_tree.specs.WellSorted.{sort_of}
use Rattle.floyd_truth.specs.Capture.{Becomes, Put, Called, Changes, renamed}

-- a variable of sort s; its kids are none
abbrev pub variable_as : Option Becomes → List ℕ → Sort → Plains → Plain
variable_as (Some (Put t)) x s kids = t
variable_as (Some (Called y)) x s kids = At (Variable y s) kids
variable_as None x s kids = At (Variable x s) kids

abbrev pub node : Changes → Head → Plains → Plain
node changes (Variable x s) kids = variable_as (lookup (bytes_eq x) changes) x s kids
node changes head kids = At head kids

-- a term after the changes
abbrev mutual
  pub replaced : Changes → Plain → Plain
  replaced changes (At head kids) = node changes head (replaced_in changes kids)

  pub replaced_in : Changes → Plains → Plains
  replaced_in changes Done = Done
  replaced_in changes (More t ts) = More (replaced changes t) (replaced_in changes ts)

-- the head, with its new name where it is a binder, over these formulas
abbrev pub head_after : Changes → FormulaHead → PlainFormulas → FormulaHead
head_after changes (Forall x s) kids = Forall (renamed changes kids x) s
head_after changes (Exists x s) kids = Exists (renamed changes kids x) s
head_after changes head kids = head

-- what becomes of the variables below it
abbrev pub changes_below : Changes → FormulaHead → PlainFormulas → Changes
changes_below changes (Forall x s) kids = (x, Called (renamed changes kids x)) ∷ changes
changes_below changes (Exists x s) kids = (x, Called (renamed changes kids x)) ∷ changes
changes_below changes head kids = changes

-- a formula after the changes: bound names are renamed, from the outermost on, only where they would capture
abbrev mutual
  pub replaced_formula : Changes → PlainFormula → PlainFormula
  replaced_formula changes (Says head terms kids) =
      Says (head_after changes head kids) (replaced_in changes terms) (replaced_formulas (changes_below changes head kids) kids)

  pub replaced_formulas : Changes → PlainFormulas → PlainFormulas
  replaced_formulas changes NoFormula = NoFormula
  replaced_formulas changes (MoreFormulas f fs) = MoreFormulas (replaced_formula changes f) (replaced_formulas changes fs)

-- The terms have the sorts of the variables that they replace, at each free occurrence.
abbrev pub HasSortOf : Option Becomes → Sort → Type 0
HasSortOf (Some (Put t)) s = sort_of t ≡ Some s
HasSortOf become s = Unit {0}

abbrev pub SortsAtHead : Changes → Head → Type 0
SortsAtHead changes (Variable x s) = HasSortOf (lookup (bytes_eq x) changes) s
SortsAtHead changes head = Unit {0}

abbrev mutual
  pub SortsAgree : Changes → Plain → Type 0
  SortsAgree changes (At head kids) = SortsAtHead changes head × AllSortsAgree changes kids

  pub AllSortsAgree : Changes → Plains → Type 0
  AllSortsAgree changes Done = Unit {0}
  AllSortsAgree changes (More t ts) = SortsAgree changes t × AllSortsAgree changes ts

abbrev mutual
  pub FormulaSortsAgree : Changes → PlainFormula → Type 0
  FormulaSortsAgree changes (Says head terms kids) = AllSortsAgree changes terms × FormulasSortsAgree (changes_below changes head kids) kids

  pub FormulasSortsAgree : Changes → PlainFormulas → Type 0
  FormulasSortsAgree changes NoFormula = Unit {0}
  FormulasSortsAgree changes (MoreFormulas f fs) = FormulaSortsAgree changes f × FormulasSortsAgree changes fs

-- these terms in place of these variables
abbrev pub puts : List (List ℕ × Plain) → Changes
puts by = map (λ p. (p.0, Put p.1)) by
