-- Terms that are made, and the parameters of a function with their terms.
use Rattle.std.proofs.Common.{◌≡◌, ℕ, ◌+◌, ◌≤◌, List, [], ◌∷◌, ◌++◌, drop, length, Option, Some, None, Ok, refl, sym, ap, ◌∙◌}
use Rattle.std.specs.Prelude.{slice_get}
use Rattle.std.proofs.lemmas.List.{append-nil, drop_all}
use Rattle.floyd_assert_changes.proofs.Parting.{left_at}
use Rattle.floyd_clight.specs.declared.unit.Local as l
use Rattle.floyd_tree.specs.declared.stop.MakeStop.{MakeStop}
use Rattle.floyd_tree.specs.Formulas.{PlainFormula}
use Rattle.floyd_tree.specs.Made.{fault_at, unless}
use Rattle.floyd_tree.specs.MadeFormulas.{formula_fault_at}
use Rattle.floyd_tree.specs.Plain.{Plain}
use Rattle.floyd_assert_trees.specs.declared.assertion.Local.{Local}
use Rattle.floyd_goal_forms.specs.Starts.{parameters_are}

made_by : {T : Type 0} (o : Option MakeStop) (t r : T) → unless o t ≡ Ok r → r ≡ t
made_by None t r e = cc
made_by (Some stop) t r e = absurd cc

-- what is made is the term
pub made_is : (t r : Plain) → unless (fault_at t) t ≡ Ok r → r ≡ t
made_is t r e = made_by (fault_at t) t r e

pub formula_is : (f r : PlainFormula) → unless (formula_fault_at f) f ≡ Ok r → r ≡ f
formula_is f r e = made_by (formula_fault_at f) f r e

-- ---- parameters

none_left : (ps : List l.Local) → parameters_are ps [] ≡ []
none_left [] = refl
none_left (p ∷ ps) = refl

-- no term is left
pub ended : (ps : List l.Local) (ts : List Plain) (i : ℕ) (all whole : List Local) → length ts ≤ i → all ++ parameters_are (drop i ps) (drop i ts) ≡ whole → all ≡ whole
ended ps ts i all whole e h =
    sym (append-nil all)
    ∙ ap (λ more. all ++ more) (sym (none_left (drop i ps)) ∙ ap (parameters_are (drop i ps)) (sym (drop_all i ts e)))
    ∙ h

-- one parameter more
pub one_more : (ps : List l.Local) (ts : List Plain) (i : ℕ) (p : l.Local) (t : Plain) → drop i ps ≡ p ∷ drop (i + 1) ps → slice_get ts i ≡ Some t → parameters_are (drop i ps) (drop i ts) ≡ record { name = p.name; term = t } ∷ parameters_are (drop (i + 1) ps) (drop (i + 1) ts)
one_more ps ts i p t e f = ap (λ xs. parameters_are xs (drop i ts)) e ∙ ap (parameters_are (p ∷ drop (i + 1) ps)) (left_at ts i (i + 1) t refl f)
