-- Numbers as the bits by which a value of a kind is read.
use Rattle.std.proofs.Common.{◌≡◌, ℕ, ◌+◌, ◌-◌, ◌*◌, ◌^◌, ◌≤◌, lit≤, true, ℤ, pos, ◌+ℤ◌, refl, sym, ap, ◌∙◌, arith}
use Rattle.std.proofs.lemmas.Int.{ints}
use Rattle.std.proofs.lemmas.Nat.{pow-add}
use Rattle.std.proofs.Math.Nat.{mul_assoc}
use Rattle.floyd_int.specs.declared.kinds.IntKind.{IntKind}
use Rattle.floyd_int.specs.declared.kinds.IntKind.TheVariants.{I8, U8, I16, U16, I32, U32, I64, U64}
use Rattle.floyd_int.specs.Kind.{width, is_signed, least, InRange, repr_of, value_of}
use Rattle.floyd_int.proofs.KindLaws.{repr-below, repr-value, repr-same, value-repr, difference}
use Rattle.floyd_clight_machine.specs.Integers.{read_as}

pub sign_read : (k : IntKind) → is_signed (read_as k) ≡ is_signed k
sign_read I8 = refl
sign_read U8 = refl
sign_read I16 = refl
sign_read U16 = refl
sign_read I32 = refl
sign_read U32 = refl
sign_read I64 = refl
sign_read U64 = refl

-- a number of a kind is one of the kind by which it is read
pub range_read : (k : IntKind) (z : ℤ) → InRange k z → InRange (read_as k) z
range_read I8 z h = record { from_least = omega (arith, ints, h.from_least); to_greatest = omega (arith, ints, h.to_greatest) }
range_read U8 z h = record { from_least = omega (arith, ints, h.from_least); to_greatest = omega (arith, ints, h.to_greatest) }
range_read I16 z h = record { from_least = omega (arith, ints, h.from_least); to_greatest = omega (arith, ints, h.to_greatest) }
range_read U16 z h = record { from_least = omega (arith, ints, h.from_least); to_greatest = omega (arith, ints, h.to_greatest) }
range_read I32 z h = h
range_read U32 z h = h
range_read I64 z h = h
range_read U64 z h = h

-- the least number of a kind is not divided by -1, and so not that of the kind by which it is read
pub least_read : (k : IntKind) (z : ℤ) → is_signed k ≡ true → InRange k z → z ≡ least (read_as k) → z ≡ least k
least_read I8 z s h e = absurd (omega (arith, ints, h.from_least, e))
least_read U8 z s h e = absurd cc
least_read I16 z s h e = absurd (omega (arith, ints, h.from_least, e))
least_read U16 z s h e = absurd cc
least_read I32 z s h e = e
least_read U32 z s h e = e
least_read I64 z s h e = e
least_read U64 z s h e = e

pub width_read : (k : IntKind) → width k ≤ width (read_as k)
width_read I8 = lit≤ tt
width_read U8 = lit≤ tt
width_read I16 = lit≤ tt
width_read U16 = lit≤ tt
width_read I32 = lit≤ tt
width_read U32 = lit≤ tt
width_read I64 = lit≤ tt
width_read U64 = lit≤ tt

pub reads_back : (k : IntKind) (z : ℤ) → InRange k z → value_of (read_as k) (repr_of (read_as k) z) ≡ z
reads_back k z h = value-repr (read_as k) z (range_read k z h)

-- what is read has the same bits
pub same_bits : (k : IntKind) (z : ℤ) → repr_of k (value_of k (repr_of k z)) ≡ repr_of k z
same_bits k z = repr-value k (repr_of k z) (repr-below k z)

power_split : (m n : ℕ) → m ≤ n → 2 ^ n ≡ 2 ^ (n - m) * 2 ^ m
power_split m n h =
    let sum : n ≡ n - m + m = omega arith in
    ap (λ i. 2 ^ i) sum ∙ pow-add 2 (n - m) m

pub wide_read : (k : IntKind) → 32 ≤ width (read_as k)
wide_read I8 = lit≤ tt
wide_read U8 = lit≤ tt
wide_read I16 = lit≤ tt
wide_read U16 = lit≤ tt
wide_read I32 = lit≤ tt
wide_read U32 = lit≤ tt
wide_read I64 = lit≤ tt
wide_read U64 = lit≤ tt

-- and the same bits of fewer
pub fewer_bits : (to k : IntKind) (z : ℤ) → width to ≤ width k → repr_of to (value_of k (repr_of k z)) ≡ repr_of to z
fewer_bits to k z within =
    let c = 2 ^ (width k - width to) in
    let d = difference k (value_of k (repr_of k z)) z (same_bits k z) in
    repr-same to (value_of k (repr_of k z)) z (d.0 * c) (d.1 * c) (more (d.0 * 2 ^ width k) (d.1 * 2 ^ width k) (d.0 * c * 2 ^ width to) (d.1 * c * 2 ^ width to) (regroup d.0) (regroup d.1) d.2)
  where
    regroup : (n : ℕ) → n * 2 ^ width k ≡ n * 2 ^ (width k - width to) * 2 ^ width to
    regroup n = ap (λ m. n * m) (power_split (width to) (width k) within) ∙ sym (mul_assoc n (2 ^ (width k - width to)) (2 ^ width to))

    more : (i j p q : ℕ) → i ≡ p → j ≡ q → value_of k (repr_of k z) +ℤ pos i ≡ z +ℤ pos j → value_of k (repr_of k z) +ℤ pos p ≡ z +ℤ pos q
    more i j p q f g h = ap (λ n. value_of k (repr_of k z) +ℤ pos n) (sym f) ∙ h ∙ ap (λ n. z +ℤ pos n) g
