-- Formulas and assertions in which every occurrence of one term is replaced by another. Holes stand in the places of the
-- occurrences, and the other term is put into them as a term is put in the place of a variable: what is put there is not looked at,
-- and a bound name is renamed where it would capture.
use Rattle.std.specs.Prelude.{ℕ, Bool, true, false, List, [], ◌∷◌, Option, Some, None, Result, Ok, Err}
use Rattle.floyd_text.specs.declared.refusal.No.{No}
use Rattle.floyd_tree.specs.Formulas.{PlainFormula}
use Rattle.floyd_tree.specs.Plain.{Plain}
use Rattle.floyd_tree.specs.WellSorted.{sort_of}
use Rattle.floyd_assert_trees.specs.declared.assertion.Assertion.{Assertion}
use Rattle.floyd_assert_changes.specs.Changed.{assertion_with, terms_in}
use Rattle.floyd_assert_changes.specs.Substituted.{formula_with}
use Rattle.floyd_goal_formulas.specs.Keeping.{too_large}
use Rattle.floyd_rewriting.specs.Holes.{assertion_opened, formula_opened, hole_for, hole_name}
use Rattle.floyd_rewriting.specs.Occurrences.{assertion_occurs, formula_occurs}

-- Of two terms for one variable the first is put. The other one, whose variables were free where the holes are, is there so that
-- no bound name gets the name of one of them.
abbrev pub into_holes : List ℕ → Plain → Plain → List (List ℕ × Plain)
into_holes name from to = (name, to) ∷ (name, from) ∷ []

-- nothing where there is no occurrence
abbrev pub if_any : {T : Type 0} → Bool → Result T No → Result (Option T) No
if_any false made = Ok None
if_any true (Ok x) = Ok (Some x)
if_any true (Err refusal) = Err refusal

abbrev pub by_hole : {T : Type 0} → Option (List ℕ) → (List ℕ → Result T No) → Result T No
by_hole None make = Err too_large
by_hole (Some name) make = make name

module _ (from to : Plain) where
  abbrev pub formula_filled : PlainFormula → List ℕ → Result PlainFormula No
  formula_filled f name = formula_with (into_holes name from to) (formula_opened from (hole_for name (sort_of from)) f)

  abbrev pub formula_rewritten : PlainFormula → Result (Option PlainFormula) No
  formula_rewritten f = by_hole (hole_name from [] (f ∷ []) []) (λ name. if_any (formula_occurs from f) (formula_filled f name))

  abbrev pub assertion_filled : Assertion → List ℕ → Result Assertion No
  assertion_filled a name = assertion_with (into_holes name from to) (assertion_opened from (hole_for name (sort_of from)) a)

  abbrev pub assertion_rewritten : Assertion → Result (Option Assertion) No
  assertion_rewritten a =
      by_hole (hole_name from a.existentials a.props (terms_in a)) (λ name. if_any (assertion_occurs from a) (assertion_filled a name))
