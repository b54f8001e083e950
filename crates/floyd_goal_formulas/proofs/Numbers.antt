-- The bounds of numbers that are taken modulo a width.
use Rattle.std.proofs.Common.{◌≡◌, ℕ, ◌+◌, ◌-◌, ◌%◌, ◌^◌, ◌<◌, ◌≤◌, Bool, true, false, ◌&&◌, ◌||◌, ℤ, pos, negsuc, refl, sym, ap, ◌∙◌, arith, lit<}
use Rattle.std.specs.Prelude.{int_le, nat_le, nat_lt}
use Rattle.std.proofs.lemmas.Int.{ints}
use Rattle.std.proofs.lemmas.Bool.{le-leb, lt-ltb}
use Rattle.floyd_int.specs.Kind as k
use Rattle.floyd_int.specs.Kind.{modulo, repr_of, value_of}
use Rattle.floyd_int.proofs.KindLaws.{InRange-value, repr-below}
use Rattle.floyd_int.proofs.Modulo.{modulo-below, modulo-small}
use Rattle.floyd_int.proofs.OperationLaws.{true-InRange}
use Rattle.floyd_ctypes.specs.Has.{signed_within}
use Rattle.floyd_tree_sorts.specs.declared.heads.Width.{Width}
use Rattle.floyd_tree_sorts.specs.declared.heads.Width.TheVariants.{Bits8, Bits16, Bits32, Bits64}
use Rattle.floyd_tree_sorts.specs.Prints.{width_number}
use Rattle.floyd_tree_sorts.proofs.SortLemmas.{both_true}
use Rattle.floyd_tree_values.specs.Numbers.{signed, unsigned, signed_kind}

or_right : (a b : Bool) → b ≡ true → (a || b) ≡ true
or_right true b e = refl
or_right false b e = e

and_both : (a b : Bool) → a ≡ true → b ≡ true → (a && b) ≡ true
and_both true b p q = q
and_both false b p q = absurd cc

pub within : (w : Width) (z : ℤ) → (int_le (k.least (signed_kind w)) (signed w z) ≡ true) × (int_le (signed w z) (k.greatest (signed_kind w)) ≡ true)
within w z =
    both_true (int_le (k.least (signed_kind w)) (signed w z)) (int_le (signed w z) (k.greatest (signed_kind w)))
    (true-InRange (signed_kind w) (signed w z) (InRange-value (signed_kind w) (repr_of (signed_kind w) z) (repr-below (signed_kind w) z)))

positive : (w : Width) → 0 < 2 ^ width_number w
positive Bits8 = lit< tt
positive Bits16 = lit< tt
positive Bits32 = lit< tt
positive Bits64 = lit< tt

pub below : (w : Width) (z : ℤ) → int_le (unsigned w z) (pos (2 ^ width_number w - 1)) ≡ true
below w z =
    let h : modulo z (2 ^ width_number w) < 2 ^ width_number w = modulo-below z (2 ^ width_number w) (positive w) in
    le-leb (modulo z (2 ^ width_number w)) (2 ^ width_number w - 1) (omega (arith, h))

pub ordered : (m n p : ℤ) → int_le m n ≡ true → int_le n p ≡ true → int_le m p ≡ true
ordered m n p h g = let r : true ≡ int_le m p = omega (arith, ints, h, g) in sym r

-- the bits of 32 that stand for a number from -m to m - 1 are within m
pub signed_bits : (m : ℕ) (z : ℤ) → m ≤ 2 ^ 31 → int_le (negsuc m) z ≡ true → int_le z (pos m) ≡ true → signed_within (m + 1) (modulo z (2 ^ 32)) ≡ true
signed_bits m (pos n) s h g =
    let n_small : n ≤ m = omega (arith, ints, g) in
    let e : modulo (pos n) (2 ^ 32) ≡ n = modulo-small n (2 ^ 32) (omega (arith, n_small, s)) in
    ap (signed_within (m + 1)) e ∙ ap (λ b. b || (nat_le (2 ^ 32) (n + (m + 1)) && nat_lt n (2 ^ 32))) (lt-ltb n (m + 1) (omega (arith, n_small)))
signed_bits m (negsuc n) s h g =
    let n_small : n ≤ m = omega (arith, ints, h) in
    let e : n % 2 ^ 32 ≡ n = modulo-small n (2 ^ 32) (omega (arith, n_small, s)) in
    let bits : modulo (negsuc n) (2 ^ 32) ≡ 2 ^ 32 - 1 - n = ap (λ x. 2 ^ 32 - 1 - x) e in
    ap (signed_within (m + 1)) bits
    ∙ or_right (nat_lt (2 ^ 32 - 1 - n) (m + 1)) _
    (and_both _ _ (le-leb (2 ^ 32) (2 ^ 32 - 1 - n + (m + 1)) (omega (arith, n_small, s))) (lt-ltb (2 ^ 32 - 1 - n) (2 ^ 32) (omega arith)))

pub unsigned_bits8 : (z : ℤ) → nat_lt (modulo (unsigned Bits8 z) (2 ^ 32)) (2 ^ 8) ≡ true
unsigned_bits8 z =
    let h : modulo z (2 ^ 8) < 2 ^ 8 = modulo-below z (2 ^ 8) (lit< tt) in
    let e : modulo (pos (modulo z (2 ^ 8))) (2 ^ 32) ≡ modulo z (2 ^ 8) = modulo-small (modulo z (2 ^ 8)) (2 ^ 32) (omega (arith, h)) in
    ap (λ n. nat_lt n (2 ^ 8)) e ∙ lt-ltb (modulo z (2 ^ 8)) (2 ^ 8) h

pub unsigned_bits16 : (z : ℤ) → nat_lt (modulo (unsigned Bits16 z) (2 ^ 32)) (2 ^ 16) ≡ true
unsigned_bits16 z =
    let h : modulo z (2 ^ 16) < 2 ^ 16 = modulo-below z (2 ^ 16) (lit< tt) in
    let e : modulo (pos (modulo z (2 ^ 16))) (2 ^ 32) ≡ modulo z (2 ^ 16) = modulo-small (modulo z (2 ^ 16)) (2 ^ 32) (omega (arith, h)) in
    ap (λ n. nat_lt n (2 ^ 16)) e ∙ lt-ltb (modulo z (2 ^ 16)) (2 ^ 16) h
