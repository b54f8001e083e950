-- Residues of whole numbers.
use Rattle.std.proofs.Common.{◌≡◌, ℕ, ◌+◌, ◌-◌, ◌*◌, ◌/◌, ◌<◌, ◌≤◌, ℤ, pos, negsuc, ◌+ℤ◌, refl, sym, ◌∙◌, ap, arith, ⊎_elim}
use Rattle.std.proofs.Math.Nat.{mod-lt, div-add-mod', mul-le-mul_left, mul-le-mul_right, mod-eq_of_lt}
use Rattle.std.proofs.lemmas.Int.{ints, int_rem_euclid_is}
use Rattle.std.proofs.lemmas.Bool.{cases_lt}
use borrow.Author.Differences.{up, down}
use Rattle.std.specs.Int.RustNames.{unsigned_abs}
use Rattle.floyd_int.specs.Kind.{modulo}

pub modulo-below : (z : ℤ) (n : ℕ) → 0 < n → modulo z n < n
modulo-below (pos a) n h = mod-lt a h
modulo-below (negsuc a) n h = let small = mod-lt a h in omega arith

-- a number from 0 to n - 1 is its own residue
pub modulo-small : (a n : ℕ) → a < n → modulo (pos a) n ≡ a
modulo-small a n h = mod-eq_of_lt h

-- numbers that differ by a multiple of n have one residue
pub modulo-same : (a b : ℤ) (n i j : ℕ) → 0 < n → a +ℤ pos (i * n) ≡ b +ℤ pos (j * n) → modulo a n ≡ modulo b n
modulo-same a b n i j some e =
    let t = down a + down b in
    let far : t * 1 ≤ t * n = mul-le-mul_left t some in
    let m = up a + (i + t) * n - down a in
    let first : a +ℤ pos ((i + t) * n) ≡ pos m = omega (arith, ints) in
    let second : b +ℤ pos ((j + t) * n) ≡ pos m = omega (arith, ints) in
    ap unsigned_abs (int_rem_euclid_is a (pos n) n (i + t) m some refl first) ∙ sym (ap unsigned_abs (int_rem_euclid_is b (pos n) n (j + t) m some refl second))

-- z and its residue differ by a multiple of n
pub modulo-split : (z : ℤ) (n : ℕ) → 0 < n → (i : ℕ) × (j : ℕ) × (z +ℤ pos (i * n) ≡ pos (modulo z n) +ℤ pos (j * n))
modulo-split (pos a) n some = (0, a / n, omega (arith, ints, div-add-mod' a n))
modulo-split (negsuc a) n some =
    let small = mod-lt a some in
    (a / n + 1, 0, omega (arith, ints, div-add-mod' a n))

-- two numbers that differ by a multiple of n and by less than n are equal
pub same_from_near : (a b : ℤ) (n i j : ℕ) → a +ℤ pos (i * n) ≡ b +ℤ pos (j * n) → up a + down b < up b + down a + n → up b + down a < up a + down b + n → a ≡ b
same_from_near a b n i j e below above =
    ⊎_elim (λ h. absurd (omega (arith, ints, mul-le-mul_right n h)))
    (λ h. ⊎_elim (λ g. absurd (omega (arith, ints, mul-le-mul_right n g)))
    (λ g. omega (arith, ints, mul-le-mul_right n h, mul-le-mul_right n g)) (cases_lt j i))
    (cases_lt i j)
