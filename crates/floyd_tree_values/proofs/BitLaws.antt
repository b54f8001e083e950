-- Operators on the bits of whole numbers act at each place by itself.
use Rattle.std.proofs.Common.{◌≡◌, ℕ, ◌+◌, ◌-◌, ◌/◌, ◌%◌, ◌^◌, ◌≤◌, min, max, ℤ, pos, negsuc, bit_and, bit_or, bit_xor, refl, ap, ◌∙◌, arith}
use Rattle.std.specs.Int.Bits.{and_step, or_add_and, xor_add_and, and_shr, or_shr, xor_shr}
use Rattle.floyd_tree_values.specs.Numbers.{bits_without, band, bor, bxor, bnot}
use Rattle.floyd_tree_values.specs.Laws.{bit}

and_even : (m n : ℕ) → bit_and m n % 2 ≡ min (m % 2) (n % 2)
and_even m n = omega (arith, and_step m n)

or_even : (m n : ℕ) → bit_or m n % 2 ≡ max (m % 2) (n % 2)
or_even m n = omega (arith, and_even m n, or_add_and m n)

xor_even : (m n : ℕ) → bit_xor m n % 2 ≡ (m % 2 + n % 2) % 2
xor_even m n = omega (arith, xor_add_and m n)

and_at : (m n k : ℕ) → bit_and m n / 2 ^ k % 2 ≡ min (m / 2 ^ k % 2) (n / 2 ^ k % 2)
and_at m n k = ap (λ x. x % 2) (and_shr m n k) ∙ and_even (m / 2 ^ k) (n / 2 ^ k)

or_at : (m n k : ℕ) → bit_or m n / 2 ^ k % 2 ≡ max (m / 2 ^ k % 2) (n / 2 ^ k % 2)
or_at m n k = ap (λ x. x % 2) (or_shr m n k) ∙ or_even (m / 2 ^ k) (n / 2 ^ k)

xor_at : (m n k : ℕ) → bit_xor m n / 2 ^ k % 2 ≡ (m / 2 ^ k % 2 + n / 2 ^ k % 2) % 2
xor_at m n k = ap (λ x. x % 2) (xor_shr m n k) ∙ xor_even (m / 2 ^ k) (n / 2 ^ k)

-- the operations on single bits
with_both : (a b x : ℕ) → x ≡ max (a % 2) (b % 2) → 1 - x ≡ min (1 - a % 2) (1 - b % 2)
with_both a b x e = omega arith

without : (a b y x : ℕ) → y ≡ min (a % 2) (b % 2) → x ≡ (a % 2 + y) % 2 → x ≡ min (a % 2) (1 - b % 2)
without a b y x e f = omega arith

without_at : (m n k : ℕ) → bits_without m n / 2 ^ k % 2 ≡ min (m / 2 ^ k % 2) (1 - n / 2 ^ k % 2)
without_at m n k = without (m / 2 ^ k) (n / 2 ^ k) (bit_and m n / 2 ^ k % 2) (bits_without m n / 2 ^ k % 2) (and_at m n k) (xor_at m (bit_and m n) k)

turned : (a b : ℕ) → min a b ≡ min b a
turned a b = omega arith

pub band_bit : (x y : ℤ) (k : ℕ) → bit (band x y) k ≡ min (bit x k) (bit y k)
band_bit (pos m) (pos n) k = and_at m n k
band_bit (pos m) (negsuc n) k = without_at m n k
band_bit (negsuc m) (pos n) k = without_at n m k ∙ turned (n / 2 ^ k % 2) (1 - m / 2 ^ k % 2)
band_bit (negsuc m) (negsuc n) k = with_both (m / 2 ^ k) (n / 2 ^ k) (bit_or m n / 2 ^ k % 2) (or_at m n k)

bit_small : (x : ℤ) (k : ℕ) → bit x k ≤ 1
bit_small (pos m) k = omega arith
bit_small (negsuc m) k = omega arith

pub bnot_bit : (x : ℤ) (k : ℕ) → bit (bnot x) k ≡ 1 - bit x k
bnot_bit (pos m) k = refl
bnot_bit (negsuc m) k = let small : m / 2 ^ k % 2 ≤ 1 = omega arith in omega arith

by_complement : (a b c d e : ℕ) → a ≤ 1 → b ≤ 1 → c ≡ 1 - a → d ≡ 1 - b → e ≡ min c d → 1 - e ≡ max a b
by_complement a b c d e s t p q r = omega arith

pub bor_bit : (x y : ℤ) (k : ℕ) → bit (bor x y) k ≡ max (bit x k) (bit y k)
bor_bit x y k =
    bnot_bit (band (bnot x) (bnot y)) k
    ∙ by_complement (bit x k) (bit y k) (bit (bnot x) k) (bit (bnot y) k) (bit (band (bnot x) (bnot y)) k) (bit_small x k) (bit_small y k) (bnot_bit x k) (bnot_bit y k) (band_bit (bnot x) (bnot y) k)

one_complement : (a b x : ℕ) → x ≡ (a % 2 + b % 2) % 2 → 1 - x ≡ (a % 2 + (1 - b % 2)) % 2
one_complement a b x e = omega arith

two_complements : (a b x : ℕ) → x ≡ (a % 2 + b % 2) % 2 → x ≡ ((1 - a % 2) + (1 - b % 2)) % 2
two_complements a b x e = omega arith

pub bxor_bit : (x y : ℤ) (k : ℕ) → bit (bxor x y) k ≡ (bit x k + bit y k) % 2
bxor_bit (pos m) (pos n) k = xor_at m n k
bxor_bit (pos m) (negsuc n) k = one_complement (m / 2 ^ k) (n / 2 ^ k) (bit_xor m n / 2 ^ k % 2) (xor_at m n k)
bxor_bit (negsuc m) (pos n) k = omega (arith, one_complement (n / 2 ^ k) (m / 2 ^ k) (bit_xor m n / 2 ^ k % 2) (omega (arith, xor_at m n k)))
bxor_bit (negsuc m) (negsuc n) k = two_complements (m / 2 ^ k) (n / 2 ^ k) (bit_xor m n / 2 ^ k % 2) (xor_at m n k)
