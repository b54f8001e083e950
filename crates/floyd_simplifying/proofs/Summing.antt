-- Sums of literals, as the program adds them up.
use Rattle.std.proofs.Common.{◌≡◌, ℤ, pos, negsuc, ◌+ℤ◌, ◌-ℤ◌, ◌*ℤ◌, ◌+◌, ◌^◌, ◌<◌, ◌≤◌, ◌<ℤ◌, ◌≤ℤ◌, arith, List, [], ◌∷◌, Option, Some, None, refl, sym, ap, subst, ◌∙◌, Bool, true, false}
use Rattle.std.specs.Prelude.{SomeIff, nat_lt, option_map, unsigned_abs}
use Rattle.std.proofs.lemmas.Bool.{ltb-false, ltb-true}
use Rattle.std.proofs.lemmas.Int.{ints, to_z-of_z}
use Rattle.std.proofs.Math.IntN.{+ℤ_assoc, +ℤ_idl, +ℤ_idr}
use Rattle.std.specs.Int.{w128}
use borrow.Author.Differences.{down, up}
use lib.Signed.{mag}
use mir.Val.{SFits, of_z, to_z}
use Rattle.floyd_tree.specs.Plain.{Plain}
use Rattle.floyd_fieldpath.specs.Sums.{literal_in}
use Rattle.floyd_simplifying.specs.WrittenLists.{numbers_by, numbers_of, total}

-- what was added up before, and what is left
abbrev pub added : ℤ → List Plain → Option ℤ
added w items = option_map (λ zs. w +ℤ total zs) (numbers_of items)

number_by : (w z : ℤ) (o : Option (List ℤ)) → option_map (λ zs. w +ℤ total zs) (numbers_by (Some z) o) ≡ option_map (λ zs. (w +ℤ z) +ℤ total zs) o
number_by w z (Some zs) = ap Some (sym (+ℤ_assoc w z (total zs)))
number_by w z None = refl

pub number_on : (w z v : ℤ) (t : Plain) (items : List Plain) → literal_in t ≡ Some z → v ≡ w +ℤ z → added v items ≡ added w (t ∷ items)
number_on w z v t items e i =
    ap (λ x. added x items) i ∙ sym (ap (λ o. option_map (λ zs. w +ℤ total zs) (numbers_by o (numbers_of items))) e ∙ number_by w z (numbers_of items))

pub number_off : (w : ℤ) (t : Plain) (items : List Plain) → literal_in t ≡ None → added w (t ∷ items) ≡ None
number_off w t items e = ap (λ o. option_map (λ zs. w +ℤ total zs) (numbers_by o (numbers_of items))) e

start_by : (o : Option (List ℤ)) → option_map (λ zs. pos 0 +ℤ total zs) o ≡ option_map total o
start_by (Some zs) = ap Some (+ℤ_idl (total zs))
start_by None = refl

pub add_start : (items : List Plain) → added (pos 0) items ≡ option_map total (numbers_of items)
add_start items = start_by (numbers_of items)

pub add_end : (w : ℤ) → added w [] ≡ Some w
add_end w = ap Some (+ℤ_idr w)

-- what does not fit
out_of : (x : ℤ) → ¬ SFits w128 x → 2 ^ 127 ≤ mag x
out_of x n = by (nat_lt (mag x) (2 ^ 127)) refl
  where
    by : (b : Bool) → nat_lt (mag x) (2 ^ 127) ≡ b → 2 ^ 127 ≤ mag x
    by true e = absurd (n (record { sfits = ltb-true (mag x) (2 ^ 127) e }))
    by false e = ltb-false (mag x) (2 ^ 127) e

-- is below the least number, or above the greatest
below_least : (x : ℤ) → 2 ^ 127 ≤ mag x → up x < down x + 2 ^ 127 → up x + 2 ^ 127 < down x
below_least (pos n) m h = omega arith
below_least (negsuc n) m h = omega arith

above_most : (x : ℤ) → 2 ^ 127 ≤ mag x → down x ≤ up x + 2 ^ 127 → down x + 2 ^ 127 ≤ up x
above_most (pos n) m h = omega arith
above_most (negsuc n) m h = omega arith

pub none_fits : (o : Option ℤ) (x : ℤ) → o ≡ None → SomeIff o (SFits w128 x) x → ¬ SFits w128 x
none_fits None x e h = h
none_fits (Some z) x e h = absurd cc

-- a number in its bits, and read again
abbrev pub read : ℤ → ℤ
read z = to_z w128 (of_z w128 z)

abbrev pub most : ℤ
most = pos 170141183460469231731687303715884105727

abbrev pub least : ℤ
least = negsuc 170141183460469231731687303715884105727

out_read : (l z : ℤ) → SFits w128 l → SFits w128 z → ¬ SFits w128 (read l +ℤ read z) → 2 ^ 127 ≤ mag (l +ℤ z)
out_read l z f g n =
    out_of (l +ℤ z)
    (subst (λ y. ¬ SFits w128 (l +ℤ y)) (to_z-of_z w128 z g) (subst (λ x. ¬ SFits w128 (x +ℤ read z)) (to_z-of_z w128 l f) n))

-- what is added up on the way fits
below_fit : (l z : ℤ) → SFits w128 l → SFits w128 z → z <ℤ pos 0 → 2 ^ 127 ≤ mag (l +ℤ z) → SFits w128 (l +ℤ most) × SFits w128 (z +ℤ most) × SFits w128 ((l +ℤ most) +ℤ (z +ℤ most)) × SFits w128 (((l +ℤ most) +ℤ (z +ℤ most)) +ℤ pos 2)
below_fit l z f g n m =
    let low : up (l +ℤ z) + 2 ^ 127 < down (l +ℤ z) = below_least (l +ℤ z) m (omega (arith, ints)) in
    (omega (arith, ints), omega (arith, ints), omega (arith, ints), omega (arith, ints))

above_fit : (l z : ℤ) → SFits w128 l → SFits w128 z → pos 0 ≤ℤ z → 2 ^ 127 ≤ mag (l +ℤ z) → SFits w128 (l +ℤ least) × SFits w128 (z +ℤ least) × SFits w128 ((l +ℤ least) +ℤ (z +ℤ least))
above_fit l z f g n m =
    let high : down (l +ℤ z) + 2 ^ 127 ≤ up (l +ℤ z) = above_most (l +ℤ z) m (omega (arith, ints)) in
    (omega (arith, ints), omega (arith, ints), omega (arith, ints))

high_down : (h : ℤ) → unsigned_abs h ≤ 18446744073709551616 → read (read h -ℤ pos 1) ≡ h -ℤ pos 1
high_down h n =
    let f : SFits w128 h = omega (arith, ints) in
    let g : SFits w128 (h -ℤ pos 1) = omega (arith, ints) in
    ap (λ x. read (x -ℤ pos 1)) (to_z-of_z w128 h f) ∙ to_z-of_z w128 (h -ℤ pos 1) g

high_up : (h : ℤ) → unsigned_abs h ≤ 18446744073709551616 → read (read h +ℤ pos 1) ≡ h +ℤ pos 1
high_up h n =
    let f : SFits w128 h = omega (arith, ints) in
    let g : SFits w128 (h +ℤ pos 1) = omega (arith, ints) in
    ap (λ x. read (x +ℤ pos 1)) (to_z-of_z w128 h f) ∙ to_z-of_z w128 (h +ℤ pos 1) g

-- what is carried to the high word
down_by : (h l z p q : ℤ) → p ≡ h -ℤ pos 1 → q ≡ ((l +ℤ most) +ℤ (z +ℤ most)) +ℤ pos 2 → p *ℤ pos (2 ^ 128) +ℤ q ≡ (h *ℤ pos (2 ^ 128) +ℤ l) +ℤ z
down_by h l z p q e i = omega (arith, ints)

up_by : (h l z p q : ℤ) → p ≡ h +ℤ pos 1 → q ≡ (l +ℤ least) +ℤ (z +ℤ least) → p *ℤ pos (2 ^ 128) +ℤ q ≡ (h *ℤ pos (2 ^ 128) +ℤ l) +ℤ z
up_by h l z p q e i = omega (arith, ints)

pub carried_down : (h l z : ℤ) → unsigned_abs h ≤ 18446744073709551616 → SFits w128 l → SFits w128 z → z <ℤ pos 0 → ¬ SFits w128 (read l +ℤ read z) → read (read h -ℤ pos 1) *ℤ pos (2 ^ 128) +ℤ read (read (read (read l +ℤ most) +ℤ read (read z +ℤ most)) +ℤ pos 2) ≡ (h *ℤ pos (2 ^ 128) +ℤ l) +ℤ z
carried_down h l z near f g below n =
    let second = read (read z +ℤ most) in
    let sum : ℤ = (l +ℤ most) +ℤ (z +ℤ most) in
    let fit = below_fit l z f g below (out_read l z f g n) in
    let j : second ≡ z +ℤ most = ap (λ x. read (x +ℤ most)) (to_z-of_z w128 z g) ∙ to_z-of_z w128 (z +ℤ most) fit.1 in
    down_by h l z _ _ (high_down h near)
    (ap (λ x. read (read (read (x +ℤ most) +ℤ second) +ℤ pos 2)) (to_z-of_z w128 l f)
    ∙ ap (λ x. read (read (x +ℤ second) +ℤ pos 2)) (to_z-of_z w128 (l +ℤ most) fit.0)
    ∙ ap (λ y. read (read ((l +ℤ most) +ℤ y) +ℤ pos 2)) j
    ∙ ap (λ x. read (x +ℤ pos 2)) (to_z-of_z w128 sum fit.2)
    ∙ to_z-of_z w128 (sum +ℤ pos 2) fit.3)

pub carried_up : (h l z : ℤ) → unsigned_abs h ≤ 18446744073709551616 → SFits w128 l → SFits w128 z → pos 0 ≤ℤ z → ¬ SFits w128 (read l +ℤ read z) → read (read h +ℤ pos 1) *ℤ pos (2 ^ 128) +ℤ read (read (read l +ℤ least) +ℤ read (read z +ℤ least)) ≡ (h *ℤ pos (2 ^ 128) +ℤ l) +ℤ z
carried_up h l z near f g above n =
    let second = read (read z +ℤ least) in
    let sum : ℤ = (l +ℤ least) +ℤ (z +ℤ least) in
    let fit = above_fit l z f g above (out_read l z f g n) in
    let j : second ≡ z +ℤ least = ap (λ x. read (x +ℤ least)) (to_z-of_z w128 z g) ∙ to_z-of_z w128 (z +ℤ least) fit.1 in
    up_by h l z _ _ (high_up h near)
    (ap (λ x. read (read (x +ℤ least) +ℤ second)) (to_z-of_z w128 l f)
    ∙ ap (λ x. read (x +ℤ second)) (to_z-of_z w128 (l +ℤ least) fit.0)
    ∙ ap (λ y. read ((l +ℤ least) +ℤ y)) j
    ∙ to_z-of_z w128 sum fit.2)
