-- A value that items change from the last one back, one item on.
use Rattle.std.proofs.Common.{◌≡◌, ℕ, zero, suc, ◌+◌, ◌<◌, ◌≤◌, List, [], ◌∷◌, length, drop, get_or, Result, Ok, refl, ap, sym, ◌∙◌, subst, arith}
use Rattle.floyd_text.specs.declared.refusal.No.{No}
use Rattle.floyd_text.specs.declared.refusal.RuleStop.{RuleStop}
use Rattle.floyd_text.specs.Gives.{RuleGives, RuleStops}
use Rattle.floyd_tree.specs.Plain.{Plain}
use Rattle.floyd_fieldpath.specs.UpdateClauses.{from_last}
use Rattle.floyd_fieldpath.specs.Written.{on_ok}
use Rattle.floyd_fieldpath.proofs.AddressLemmas.{dropped_all}
use Rattle.floyd_fieldpath.proofs.WrittenLemmas.{stops}

module _ {A : Type 0} (change : A → Plain → Result Plain No) where
  -- no item behind the end
  pub at_end : (items : List A) (k : ℕ) (u : Plain) → length items ≤ k → from_last change (drop k items) u ≡ Ok u
  at_end items k u h = ap (λ xs. from_last change xs u) (dropped_all k items h)

  -- the item at a place, and then those behind it
  here : (items : List A) (k : ℕ) (a : A) (u : Plain) → k < length items → a ≡ get_or items k a → from_last change (drop k items) u ≡ on_ok (from_last change (drop (suc k) items) u) (change a)
  here [] k a u l e = absurd (omega arith)
  here (b ∷ items) zero a u l e = ap (λ x. on_ok (from_last change items u) (change x)) (sym e)
  here (b ∷ items) (suc k) a u l e = here items k a u (omega arith) e

  pub one_back : (items : List A) (j k : ℕ) (a : A) (u w more : Plain) → j ≡ suc k → k < length items → a ≡ get_or items k a → from_last change (drop j items) u ≡ Ok w → change a w ≡ Ok more → from_last change (drop k items) u ≡ Ok more
  one_back items j k a u w more e l g held h =
      here items k a u l g ∙ ap (λ n. on_ok (from_last change (drop n items) u) (change a)) (sym e) ∙ ap (λ r. on_ok r (change a)) held ∙ h

  -- what stops one of them stops the whole
  whole : (items : List A) (k : ℕ) (u : Plain) (stop : RuleStop) → RuleStops stop (from_last change (drop k items) u) → RuleStops stop (from_last change items u)
  whole items zero u stop h = h
  whole [] (suc k) u stop h = h
  whole (b ∷ items) (suc k) u stop h = stops stop (from_last change items u) (change b) (whole items k u stop h)

  pub back_stops : (items : List A) (j k : ℕ) (a : A) (u w : Plain) (stop : RuleStop) → j ≡ suc k → k < length items → a ≡ get_or items k a → from_last change (drop j items) u ≡ Ok w → RuleStops stop (change a w) → RuleStops stop (from_last change items u)
  back_stops items j k a u w stop e l g held h =
      whole items k u stop
      (subst (RuleStops stop)
      (sym (here items k a u l g ∙ ap (λ n. on_ok (from_last change (drop n items) u) (change a)) (sym e) ∙ ap (λ r. on_ok r (change a)) held)) h)
