-- The operators on the bits of numbers give the bits of what the operators on numbers give.
use Rattle.std.proofs.Common.{◌≡◌, ℕ, ◌+◌, ◌-◌, ◌%◌, ◌^◌, ◌<◌, ◌≤◌, min, max, ℤ, pos, negsuc, bit_and, bit_or, bit_xor, Some, sym, ap, ap₂, ◌∙◌, arith}
use Rattle.std.specs.Int.{bit_at, w8, w16, w32, w64}
use Rattle.std.proofs.Math.Nat.{mod-lt}
use Rattle.std.proofs.Math.Pow.{ones_lt}
use Rattle.std.proofs.lemmas.Nat.{and_mask, and_le_l, or_lt, pow_pos, xor_lt}
use Rattle.std.proofs.lemmas.Nat.Bits.{bit_at-lt, bit_at_and, bit_at_not, bit_at_ones, bit_at_or, bit_at_xor, same_from_bits_below}
use Rattle.floyd_int.specs.declared.kinds.IntKind.{IntKind}
use Rattle.floyd_int.specs.declared.kinds.IntKind.TheVariants.{I8, U8, I16, U16, I32, U32, I64, U64}
use Rattle.floyd_int.specs.declared.kinds.IntOp.TheVariants.{And, Or, Xor}
use Rattle.floyd_int.specs.Kind.{width, repr_of}
use Rattle.floyd_int.specs.Operation.{operation_of}
use Rattle.floyd_int.proofs.KindLaws.{repr-below}
use Rattle.floyd_clight_machine.specs.Integers.{complement_of}
use Rattle.floyd_tree_values.specs.Laws.{bit}
use Rattle.floyd_tree_values.specs.Numbers.{band, bor, bxor, bnot}
use Rattle.floyd_tree_values.proofs.BitLaws.{band_bit, bnot_bit, bor_bit, bxor_bit}

min_one : (a : ℕ) → a < 2 → min a 1 ≡ a
min_one a h = omega arith

-- the low bits of a number that is cut are its own
cut_bit : (n w i : ℕ) → i < w → bit_at (n % 2 ^ w) i ≡ bit_at n i
cut_bit n w i h =
    ap (λ m. bit_at m i) (sym (and_mask n w)) ∙ bit_at_and n (2 ^ w - 1) i ∙ ap (min (bit_at n i)) (bit_at_ones w i h) ∙ min_one (bit_at n i) (bit_at-lt n i)

complement_bit : (k : IntKind) (n i : ℕ) → n < 2 ^ width k → i < width k → bit_at (2 ^ width k - 1 - n) i ≡ 1 - bit_at n i
complement_bit I8 n i h g = bit_at_not w8 n i h g
complement_bit U8 n i h g = bit_at_not w8 n i h g
complement_bit I16 n i h g = bit_at_not w16 n i h g
complement_bit U16 n i h g = bit_at_not w16 n i h g
complement_bit I32 n i h g = bit_at_not w32 n i h g
complement_bit U32 n i h g = bit_at_not w32 n i h g
complement_bit I64 n i h g = bit_at_not w64 n i h g
complement_bit U64 n i h g = bit_at_not w64 n i h g

-- the bits of a kind are the low bits of two's complement without end
pub repr_bit : (k : IntKind) (z : ℤ) (i : ℕ) → i < width k → bit_at (repr_of k z) i ≡ bit z i
unfolding repr_of
repr_bit k (pos n) i h = cut_bit n (width k) i h
repr_bit k (negsuc n) i h =
    complement_bit k (n % 2 ^ width k) i (mod-lt n (pow_pos (width k))) h ∙ ap (λ b. 1 - b) (cut_bit n (width k) i h)

-- so is what acts on each bit by itself
same_bits_each : (k : IntKind) (n : ℕ) (z : ℤ) → n < 2 ^ width k → ((i : ℕ) → i < width k → bit_at n i ≡ bit z i) → n ≡ repr_of k z
same_bits_each k n z h each = same_from_bits_below (width k) n (repr_of k z) h (repr-below k z) (λ i l. each i l ∙ sym (repr_bit k z i l))

lower : (a b c : ℕ) → a < c → b ≤ a → b < c
lower a b c h g = omega arith

pub and_is : (k : IntKind) (x y : ℤ) → operation_of And k (repr_of k x) (repr_of k y) ≡ Some (repr_of k (band x y))
unfolding operation_of
and_is k x y =
    let a = repr_of k x in
    let b = repr_of k y in
    ap Some (same_bits_each k (bit_and a b) (band x y) (lower a (bit_and a b) (2 ^ width k) (repr-below k x) (and_le_l a b))
    (λ i l. bit_at_and a b i ∙ ap₂ min (repr_bit k x i l) (repr_bit k y i l) ∙ sym (band_bit x y i)))

pub or_is : (k : IntKind) (x y : ℤ) → operation_of Or k (repr_of k x) (repr_of k y) ≡ Some (repr_of k (bor x y))
unfolding operation_of
or_is k x y =
    let a = repr_of k x in
    let b = repr_of k y in
    ap Some (same_bits_each k (bit_or a b) (bor x y) (or_lt (width k) a b (repr-below k x) (repr-below k y))
    (λ i l. bit_at_or a b i ∙ ap₂ max (repr_bit k x i l) (repr_bit k y i l) ∙ sym (bor_bit x y i)))

pub xor_is : (k : IntKind) (x y : ℤ) → operation_of Xor k (repr_of k x) (repr_of k y) ≡ Some (repr_of k (bxor x y))
unfolding operation_of
xor_is k x y =
    let a = repr_of k x in
    let b = repr_of k y in
    ap Some (same_bits_each k (bit_xor a b) (bxor x y) (xor_lt (width k) a b (repr-below k x) (repr-below k y))
    (λ i l. bit_at_xor a b i ∙ ap₂ (λ c d. (c + d) % 2) (repr_bit k x i l) (repr_bit k y i l) ∙ sym (bxor_bit x y i)))

turned_over : (a : ℕ) → a < 2 → (a + 1) % 2 ≡ 1 - a
turned_over a h = omega arith

pub not_is : (k : IntKind) (x : ℤ) → complement_of k (repr_of k x) ≡ repr_of k (bnot x)
not_is k x =
    let a = repr_of k x in
    same_bits_each k (bit_xor a (2 ^ width k - 1)) (bnot x) (xor_lt (width k) a (2 ^ width k - 1) (repr-below k x) (ones_lt (width k)))
    (λ i l. bit_at_xor a (2 ^ width k - 1) i ∙ ap (λ b. (bit_at a i + b) % 2) (bit_at_ones (width k) i l) ∙ turned_over (bit_at a i) (bit_at-lt a i) ∙ ap (λ b. 1 - b) (repr_bit k x i l) ∙ sym (bnot_bit x i))
