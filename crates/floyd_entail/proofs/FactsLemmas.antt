-- Steps one after the other, and what is known of a part, one after the other.
use Rattle.std.proofs.Common.{◌≡◌, ℕ, ◌+◌, Bool, true, false, List, [], ◌∷◌, ◌++◌, map, drop, Option, Some, None, Result, Ok, Err, refl, sym, ap, subst, ◌∙◌, append_assoc}
use Rattle.std.specs.Prelude.{slice_get}
use Rattle.floyd_text.specs.declared.refusal.No.{No}
use Rattle.floyd_text.specs.declared.refusal.RuleStop.{RuleStop}
use Rattle.floyd_text.specs.declared.refusal.RuleStop.TheVariants as r
use Rattle.floyd_text.specs.Gives.{RuleStops}
use Rattle.floyd_tree_sorts.specs.declared.connectives.StepShape.{StepShape}
use Rattle.floyd_tree.specs.declared.paths.PathStep.{PathStep}
use Rattle.floyd_tree.specs.Formulas.{PlainFormula}
use Rattle.floyd_tree.specs.Plain.{Plain}
use Rattle.floyd_assert_changes.proofs.Parting.{left_at}
use Rattle.floyd_fieldpath.specs.Written.{on_ok}
use Rattle.floyd_fieldpath.proofs.WrittenLemmas.{stops}
use Rattle.floyd_entail.specs.Facts.{in_turn, step_shape}

-- the shape of one more step is there
pub shaped_step : (path : List PathStep) (i : ℕ) (s : PathStep) (shape : StepShape) (done all : List StepShape) → slice_get path i ≡ Some s → shape ≡ step_shape s → all ≡ done ++ shape ∷ [] → all ++ map step_shape (drop (i + 1) path) ≡ done ++ map step_shape (drop i path)
shaped_step path i s shape done all e is more =
    ap (λ xs. xs ++ map step_shape (drop (i + 1) path)) more
    ∙ append_assoc done (shape ∷ []) (map step_shape (drop (i + 1) path))
    ∙ ap (λ x. done ++ x ∷ map step_shape (drop (i + 1) path)) is
    ∙ ap (λ p. done ++ map step_shape p) (sym (left_at path i (i + 1) s refl e))

-- formulas, and behind them others
pub turn_stops_first : (stop : RuleStop) (front back : Result (List PlainFormula) No) → RuleStops stop front → RuleStops stop (in_turn front back)
turn_stops_first stop front back h = stops stop front (λ fs. on_ok back (λ gs. Ok (fs ++ gs))) h

pub turn_stops_second : (stop : RuleStop) (front back : Result (List PlainFormula) No) (fs : List PlainFormula) → front ≡ Ok fs → RuleStops stop back → RuleStops stop (in_turn front back)
turn_stops_second stop front back fs e h =
    subst (λ d. RuleStops stop (in_turn d back)) (sym e) (stops stop back (λ gs. Ok (fs ++ gs)) h)

pub turn_goes : (front back : Result (List PlainFormula) No) (fs gs all : List PlainFormula) → front ≡ Ok fs → back ≡ Ok gs → all ≡ fs ++ gs → in_turn front back ≡ Ok all
turn_goes front back fs gs all e f h =
    subst (λ d. in_turn d back ≡ Ok all) (sym e) (subst (λ d. in_turn (Ok fs) d ≡ Ok all) (sym f) (subst (λ xs. in_turn (Ok fs) (Ok gs) ≡ Ok xs) (sym h) refl))
