-- What follows once a term is written, as the program answers it.
use Rattle.std.proofs.Common.{◌≡◌, Bool, true, false, Result, Ok, Err, Some, None, is_some, refl, ap, sym, subst}
use Rattle.std.specs.Prelude.{if◌then◌else◌}
use Rattle.floyd_text.specs.declared.refusal.No.{No}
use Rattle.floyd_text.specs.declared.refusal.RuleStop.{RuleStop}
use Rattle.floyd_text.specs.declared.refusal.RuleStop.TheVariants as r
use Rattle.floyd_text.specs.Gives.{RuleGives, RuleStops}
use Rattle.floyd_tree.specs.declared.stop.MakeStop.TheVariants.{IllSorted, TooLarge}
use Rattle.floyd_tree.specs.Made.{fault_at, fits, unless}
use Rattle.floyd_tree.specs.Plain.{Plain}
use Rattle.floyd_tree.specs.WellSorted.{sort_of}
use Rattle.floyd_fieldpath.specs.Written.{ill_sorted, on_ok, too_large, written}

pub goes_on : {A B : Type 0} (d : Result A No) (f : A → Result B No) (a : A) (x : Result B RuleStop) → d ≡ Ok a → RuleGives (λ b. b) x (f a) → RuleGives (λ b. b) x (on_ok d f)
goes_on d f a x e h = subst (λ y. RuleGives (λ b. b) x (on_ok y f)) (sym e) h

pub stops : {A B : Type 0} (stop : RuleStop) (d : Result A No) (f : A → Result B No) → RuleStops stop d → RuleStops stop (on_ok d f)
stops (r.No refusal) d f e = ap (λ y. on_ok y f) e
stops r.Memory d f e = tt

-- a call answers one definition as another, where they are the same
pub answers : {A : Type 0} (d e : Result A No) (x : Result A RuleStop) → d ≡ e → RuleGives (λ b. b) x d → RuleGives (λ b. b) x e
answers d e x same h = subst (RuleGives (λ b. b) x) same h

pub stopped : {A : Type 0} (d e : Result A No) (stop : RuleStop) → d ≡ e → RuleStops stop d → RuleStops stop e
stopped d e stop same h = subst (RuleStops stop) same h

-- ---- what is made is what is written

pub made_is : (t u : Plain) → unless (fault_at t) t ≡ Ok u → written t ≡ Ok u
made_is t u e = by (is_some (sort_of t)) (fits t) e
  where
    by : (a b : Bool) → unless (if a then (if b then None else Some TooLarge) else Some IllSorted) t ≡ Ok u → (if a then (if b then Ok t else Err too_large) else Err ill_sorted) ≡ Ok u
    by true true f = cc
    by true false f = absurd cc
    by false b f = absurd cc

pub ill_is : (t : Plain) → unless (fault_at t) t ≡ Err IllSorted → written t ≡ Err ill_sorted
ill_is t e = by (is_some (sort_of t)) (fits t) e
  where
    by : (a b : Bool) → unless (if a then (if b then None else Some TooLarge) else Some IllSorted) t ≡ Err IllSorted → (if a then (if b then Ok t else Err too_large) else Err ill_sorted) ≡ Err ill_sorted
    by true true f = absurd cc
    by true false f = absurd cc
    by false b f = refl

pub large_is : (t : Plain) → unless (fault_at t) t ≡ Err TooLarge → written t ≡ Err too_large
large_is t e = by (is_some (sort_of t)) (fits t) e
  where
    by : (a b : Bool) → unless (if a then (if b then None else Some TooLarge) else Some IllSorted) t ≡ Err TooLarge → (if a then (if b then Ok t else Err too_large) else Err ill_sorted) ≡ Err too_large
    by true true f = absurd cc
    by true false f = refl
    by false b f = absurd cc
