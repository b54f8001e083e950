-- One item after the other.
use Rattle.std.proofs.Common.{◌≡◌, ℕ, zero, suc, ◌+◌, ◌<◌, List, [], ◌∷◌, ◌++◌, length, drop, Some, None, refl, sym, ap, ◌∙◌, arith}
use Rattle.std.specs.Prelude.{slice_get}
use Rattle.std.specs.List.{flat_map}
use Rattle.std.proofs.lemmas.List.{append_assoc}
use Rattle.floyd_clight_memory.specs.Memory.{nth}
use Rattle.floyd_assert_changes.proofs.Parting.{left_at}

-- an item that is within the list is there
pub is_there : {A : Type 0} (items : List A) (i : ℕ) → i < length items → slice_get items i ≡ None → ⊥
is_there [] i within e = omega (arith, within)
is_there (a ∷ items) zero within e = absurd cc
is_there (a ∷ items) (suc i) within e = is_there items i (omega (arith, within)) e

-- what one item gives is put behind what there is
pub next_item : {A B : Type 0} (f : A → List B) (items : List A) (i : ℕ) (a : A) (all : List B) → slice_get items i ≡ Some a → all ++ flat_map f (drop i items) ≡ (all ++ f a) ++ flat_map f (drop (i + 1) items)
next_item f items i a all e =
    ap (λ xs. all ++ flat_map f xs) (left_at items i (i + 1) a refl e)
    ∙ sym (append_assoc all (f a) (flat_map f (drop (i + 1) items)))

pub nil_parts : {A : Type 0} (xs ys : List A) → xs ++ ys ≡ [] → (xs ≡ []) × (ys ≡ [])
nil_parts [] ys e = (refl, e)
nil_parts (x ∷ xs) ys e = absurd cc

-- both ways to take what stands at a number
pub nth_is_get : {A : Type 0} (xs : List A) (i : ℕ) → nth xs i ≡ slice_get xs i
nth_is_get [] i = refl
nth_is_get (x ∷ xs) zero = refl
nth_is_get (x ∷ xs) (suc i) = nth_is_get xs i
