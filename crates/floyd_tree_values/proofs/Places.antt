-- A sublist has the items at the places between its bounds.
use Rattle.std.proofs.Common.{◌≡◌, ℕ, zero, suc, ◌+◌, ◌-◌, ◌<◌, ◌≤◌, Bool, true, false, cond, ◌&&◌, ltb, leb, ℤ, pos, negsuc, List, [], ◌∷◌, take, drop, refl, sym, ap, ap₂, ◌∙◌, leb-true, leb-false, ltb-true, ltb-false, arith}
use Rattle.std.specs.Prelude.{int_le, int_lt}
use Rattle.floyd_tree_values.specs.Data.{Datum}
use Rattle.floyd_tree_values.specs.Lists.{at_least_zero, sublist}
use Rattle.floyd_tree_values.specs.Laws.{between}

from_first : (lo : ℤ) (at : ℕ) → int_le lo (pos at) ≡ leb (at_least_zero lo) at
from_first (pos a) at = refl
from_first (negsuc a) at = always (leb 0 at) refl
  where
    always : (t : Bool) → leb 0 at ≡ t → true ≡ t
    always true e = refl
    always false e = absurd (omega (arith, leb-false 0 at e))

before_second : (hi : ℤ) (at : ℕ) → int_lt (pos at) hi ≡ ltb at (at_least_zero hi)
before_second (pos b) at = refl
before_second (negsuc b) at = never (ltb at 0) refl
  where
    never : (t : Bool) → ltb at 0 ≡ t → false ≡ t
    never true e = absurd (omega (arith, ltb-true at 0 e))
    never false e = refl

nothing_left : (n : ℕ) → drop {A = Datum} n [] ≡ []
nothing_left zero = refl
nothing_left (suc n) = refl

nothing_taken : (n : ℕ) → take {A = Datum} n [] ≡ []
nothing_taken zero = refl
nothing_taken (suc n) = refl

beyond : (a b at : ℕ) (d : Datum) (ds : List Datum) → b ≤ at → drop (a - at) (take (b - at) (d ∷ ds)) ≡ drop (a - (at + 1)) (take (b - (at + 1)) ds)
beyond a b at d ds high =
    let none : b - at ≡ 0 = omega arith in
    let still_none : b - (at + 1) ≡ 0 = omega arith in
    ap (λ y. drop (a - at) (take y (d ∷ ds))) none ∙ nothing_left (a - at) ∙ sym (nothing_left (a - (at + 1))) ∙ ap (λ y. drop (a - (at + 1)) (take y ds)) (sym still_none)

-- one item, which stands at the place `at`
one_item : (a b at : ℕ) (d : Datum) (ds : List Datum) (t s : Bool) → leb a at ≡ t → ltb at b ≡ s →
    drop (a - at) (take (b - at) (d ∷ ds)) ≡ cond (t && s) (d ∷ drop (a - (at + 1)) (take (b - (at + 1)) ds)) (drop (a - (at + 1)) (take (b - (at + 1)) ds))
one_item a b at d ds true true e f =
    let low : a ≤ at = leb-true a at e in
    let high : at < b = ltb-true at b f in
    let none : a - at ≡ 0 = omega arith in
    let still_none : a - (at + 1) ≡ 0 = omega arith in
    let some : b - at ≡ suc (b - (at + 1)) = omega arith in
    ap₂ (λ x y. drop x (take y (d ∷ ds))) none some ∙ ap (λ x. d ∷ drop x (take (b - (at + 1)) ds)) (sym still_none)
one_item a b at d ds false true e f =
    let low : at < a = leb-false a at e in
    let high : at < b = ltb-true at b f in
    let more : a - at ≡ suc (a - (at + 1)) = omega arith in
    let some : b - at ≡ suc (b - (at + 1)) = omega arith in
    ap₂ (λ x y. drop x (take y (d ∷ ds))) more some
one_item a b at d ds true false e f = beyond a b at d ds (ltb-false at b f)
one_item a b at d ds false false e f = beyond a b at d ds (ltb-false at b f)

items_between : (lo hi : ℤ) (at : ℕ) (ds : List Datum) → drop (at_least_zero lo - at) (take (at_least_zero hi - at) ds) ≡ between lo hi at ds
items_between lo hi at [] = ap (drop (at_least_zero lo - at)) (nothing_taken (at_least_zero hi - at)) ∙ nothing_left (at_least_zero lo - at)
items_between lo hi at (d ∷ ds) =
    let a = at_least_zero lo in
    let b = at_least_zero hi in
    one_item a b at d ds (leb a at) (ltb at b) refl refl
    ∙ ap (λ xs. cond (leb a at && ltb at b) (d ∷ xs) xs) (items_between lo hi (at + 1) ds)
    ∙ ap₂ (λ t s. cond (t && s) (d ∷ between lo hi (at + 1) ds) (between lo hi (at + 1) ds)) (sym (from_first lo at)) (sym (before_second hi at))

pub sublist_is_between : (lo hi : ℤ) (ds : List Datum) → sublist lo hi ds ≡ between lo hi 0 ds
sublist_is_between lo hi ds =
    let a = at_least_zero lo in
    let b = at_least_zero hi in
    let same_a : a ≡ a - 0 = omega arith in
    let same_b : b ≡ b - 0 = omega arith in
    ap₂ (λ x y. drop x (take y ds)) same_a same_b ∙ items_between lo hi 0 ds
