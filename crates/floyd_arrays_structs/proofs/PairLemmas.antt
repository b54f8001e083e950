-- Values that are paired from the last one back.
use Rattle.std.proofs.Common.{◌≡◌, ℕ, zero, suc, ◌<◌, List, [], ◌∷◌, length, drop, get_or, Result, Ok, Err, refl, ap, sym, ◌∙◌, subst, arith}
use Rattle.floyd_text.specs.declared.refusal.No.{No}
use Rattle.floyd_text.specs.declared.refusal.RuleStop.{RuleStop}
use Rattle.floyd_text.specs.Gives.{RuleStops}
use Rattle.floyd_tree.specs.Plain.{Plain}
use Rattle.floyd_fieldpath.specs.Updates.{pair}
use Rattle.floyd_fieldpath.specs.Written.{on_ok}
use Rattle.floyd_fieldpath.proofs.WrittenLemmas.{stops}
use Rattle.floyd_goal.specs.Goals.{wrong_goal}
use Rattle.floyd_arrays_structs.specs.JoinStruct.{pairs}

-- there is none
pub no_pairs : (values : List Plain) → length values ≡ 0 → pairs values ≡ Err wrong_goal
no_pairs [] e = refl
no_pairs (v ∷ values) e = absurd (omega (arith, e))

-- the last one
pub last_value : (values : List Plain) (k : ℕ) (v : Plain) → suc k ≡ length values → v ≡ get_or values k v → pairs (drop k values) ≡ Ok v
last_value [] k v e is = absurd (omega (arith, e))
last_value (u ∷ []) zero v e is = ap (λ (x : Plain). let done : Result Plain No = Ok x in done) (sym is)
last_value (u ∷ []) (suc k) v e is = absurd (omega (arith, e))
last_value (u ∷ w ∷ values) zero v e is = absurd (omega (arith, e))
last_value (u ∷ w ∷ values) (suc k) v e is = last_value (w ∷ values) k v (omega (arith, e)) is

-- one before those that are paired
here : (values : List Plain) (k : ℕ) (v : Plain) → suc k < length values → v ≡ get_or values k v → pairs (drop k values) ≡ on_ok (pairs (drop (suc k) values)) (pair v)
here [] k v l is = absurd (omega (arith, l))
here (u ∷ []) k v l is = absurd (omega (arith, l))
here (u ∷ w ∷ values) zero v l is = ap (λ x. on_ok (pairs (w ∷ values)) (pair x)) (sym is)
here (u ∷ w ∷ values) (suc k) v l is = here (w ∷ values) k v (omega (arith, l)) is

one_on : (values : List Plain) (j k : ℕ) (v w : Plain) → j ≡ suc k → j < length values → v ≡ get_or values k v → pairs (drop j values) ≡ Ok w → pairs (drop k values) ≡ pair v w
one_on values j k v w e l is held =
    here values k v (subst (λ n. n < length values) e l) is
    ∙ ap (λ n. on_ok (pairs (drop n values)) (pair v)) (sym e)
    ∙ ap (λ r. on_ok r (pair v)) held

pub one_back : (values : List Plain) (j k : ℕ) (v w more : Plain) → j ≡ suc k → j < length values → v ≡ get_or values k v → pairs (drop j values) ≡ Ok w → pair v w ≡ Ok more → pairs (drop k values) ≡ Ok more
one_back values j k v w more e l is held h = one_on values j k v w e l is held ∙ h

-- what stops one of them stops the whole
whole : (values : List Plain) (k : ℕ) (stop : RuleStop) → k < length values → RuleStops stop (pairs (drop k values)) → RuleStops stop (pairs values)
whole values zero stop l h = h
whole [] (suc k) stop l h = absurd (omega (arith, l))
whole (u ∷ []) (suc k) stop l h = absurd (omega (arith, l))
whole (u ∷ w ∷ values) (suc k) stop l h = stops stop (pairs (w ∷ values)) (pair u) (whole (w ∷ values) k stop (omega (arith, l)) h)

pub back_stops : (values : List Plain) (j k : ℕ) (v w : Plain) (stop : RuleStop) → j ≡ suc k → j < length values → v ≡ get_or values k v → pairs (drop j values) ≡ Ok w → RuleStops stop (pair v w) → RuleStops stop (pairs values)
back_stops values j k v w stop e l is held h =
    whole values k stop (omega (arith, e, l)) (subst (RuleStops stop) (sym (one_on values j k v w e l is held)) h)

-- all are paired
pub at_front : (values : List Plain) (k : ℕ) (w : Plain) → k ≡ 0 → pairs (drop k values) ≡ Ok w → pairs values ≡ Ok w
at_front values k w e h = ap (λ n. pairs (drop n values)) (sym e) ∙ h
