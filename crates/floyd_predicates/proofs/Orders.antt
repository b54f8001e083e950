-- One item after the other.
use Rattle.std.proofs.Common.{◌≡◌, ℕ, zero, suc, ◌+◌, ◌<◌, List, [], ◌∷◌, length, drop, map, Option, Some, None, refl, ap, arith}
use Rattle.std.specs.Prelude.{slice_get}
use Rattle.floyd_assert_changes.proofs.Parting.{left_at}
use Rattle.floyd_text.specs.declared.refusal.Refusal.{Refusal}
use Rattle.floyd_predicates.specs.WellFormed.{earliest, sooner}

-- one refusal more is looked at
pub next_item : {X : Type 0} (f : X → Option Refusal) (items : List X) (i : ℕ) (x : X) (found : Option Refusal) → slice_get items i ≡ Some x → earliest found (map f (drop i items)) ≡ earliest (sooner found (f x)) (map f (drop (i + 1) items))
next_item f items i x found e = ap (λ xs. earliest found (map f xs)) (left_at items i (i + 1) x refl e)

-- an item that is within the list is there
pub is_there : {X : Type 0} (items : List X) (i : ℕ) → i < length items → slice_get items i ≡ None → ⊥
is_there [] i within e = omega (arith, within)
is_there (x ∷ items) zero within e = absurd cc
is_there (x ∷ items) (suc i) within e = is_there items i (omega (arith, within)) e
