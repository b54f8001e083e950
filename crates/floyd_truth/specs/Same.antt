-- Equality of formulas up to the names that are bound.
use Rattle.std.specs.Prelude.{◌≡◌, ℕ, Bool, true, ◌&&◌, ◌||◌, if◌then◌else◌, List, [], ◌∷◌, bytes_eq}
use Rattle.floyd_tree_sorts.specs.declared.connectives.FormulaHead.{FormulaHead}
use Rattle.floyd_tree_sorts.specs.declared.connectives.FormulaHead.TheVariants.{Forall, Exists}
use Rattle.floyd_tree_sorts.specs.declared.heads.Head.{Head}
use Rattle.floyd_tree_sorts.specs.declared.heads.Head.TheVariants.{Variable}
use Rattle.floyd_tree.specs.Formulas.{PlainFormula, PlainFormulas, Says, NoFormula, MoreFormulas}
use Rattle.floyd_tree.specs.Plain.{Plain, Plains, At, Done, More}

-- the binders around, the innermost first: each with its name in the one formula and in the other
abbrev pub Binders : Type 0
Binders = List (List ℕ × List ℕ)

-- whether x in the one is y in the other: both are bound by the same binder, or both are free and the same
abbrev pub same_variable : Binders → List ℕ → List ℕ → Bool
same_variable [] x y = bytes_eq x y
same_variable (b ∷ around) x y = if bytes_eq x b.0 || bytes_eq y b.1 then bytes_eq x b.0 && bytes_eq y b.1 else same_variable around x y

abbrev pub SameHead : Binders → Head → Head → Type 0
SameHead around (Variable x s) (Variable y t) = (same_variable around x y ≡ true) × (s ≡ t)
SameHead around a b = a ≡ b

abbrev mutual
  pub SameTerm : Binders → Plain → Plain → Type 0
  SameTerm around (At a ts) (At b us) = SameHead around a b × SameTerms around ts us

  pub SameTerms : Binders → Plains → Plains → Type 0
  SameTerms around Done Done = Unit {0}
  SameTerms around Done (More u us) = ⊥
  SameTerms around (More t ts) Done = ⊥
  SameTerms around (More t ts) (More u us) = SameTerm around t u × SameTerms around ts us

-- equal but for the name that is bound
abbrev pub SameForm : FormulaHead → FormulaHead → Type 0
SameForm (Forall x s) (Forall y t) = s ≡ t
SameForm (Exists x s) (Exists y t) = s ≡ t
SameForm a b = a ≡ b

-- the binders around what stands below these heads
abbrev pub below : FormulaHead → FormulaHead → Binders → Binders
below (Forall x s) (Forall y t) around = (x, y) ∷ around
below (Exists x s) (Exists y t) around = (x, y) ∷ around
below a b around = around

abbrev mutual
  pub SameUnder : Binders → PlainFormula → PlainFormula → Type 0
  SameUnder around (Says a ts fs) (Says b us gs) = SameForm a b × SameTerms around ts us × AllSame (below a b around) fs gs

  pub AllSame : Binders → PlainFormulas → PlainFormulas → Type 0
  AllSame around NoFormula NoFormula = Unit {0}
  AllSame around NoFormula (MoreFormulas g gs) = ⊥
  AllSame around (MoreFormulas f fs) NoFormula = ⊥
  AllSame around (MoreFormulas f fs) (MoreFormulas g gs) = SameUnder around f g × AllSame around fs gs

-- the formulas are equal up to bound names
abbrev pub SameFormula : PlainFormula → PlainFormula → Type 0
SameFormula f g = SameUnder [] f g
