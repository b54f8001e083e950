-- Shifts by more than a number has bits.
use Rattle.std.proofs.Common.{◌≡◌, ◌≢◌, ℕ, zero, suc, ◌*◌, ◌/◌, ◌%◌, ◌<◌, ◌≤◌, ◌^◌, ℤ, pos, negsuc, ◌≤ℤ◌, ◌<ℤ◌, ◌*ℤ◌, false, FitsSigned, to_z, of_z, Some, refl, ap, sym, ◌∙◌, arith}
use Rattle.std.specs.Prelude.{Option, unsigned_abs, nat_lt}
use Rattle.std.specs.Int.{w128}
use Rattle.std.proofs.lemmas.Int.{ints, to_z-of_z, to_z_pos, unsigned_abs-mul}
use Rattle.std.proofs.lemmas.Nat.{one_shl, pow_below}
use Rattle.std.proofs.lemmas.Bool.Decides.{nat_tests}
use Rattle.std.proofs.Math.IntN.{zero-*ℤ}
use Rattle.std.proofs.Math.Nat.{div-eq_of_lt}
use Rattle.floyd_fieldpath.specs.Sums.{is_small, small}
use Rattle.floyd_int.specs.Operation.{floor_div}
use Rattle.floyd_tree_values.specs.Numbers.{shl, shr}

pub shl_is : (x y : ℤ) → pos 0 ≤ℤ y → shl x y ≡ x *ℤ pos (2 ^ unsigned_abs y)
shl_is x (pos n) h = refl
shl_is x (negsuc n) h = absurd (omega (arith, ints))

pub shr_is : (x y : ℤ) → pos 0 ≤ℤ y → shr x y ≡ floor_div x (2 ^ unsigned_abs y)
shr_is x (pos n) h = refl
shr_is x (negsuc n) h = absurd (omega (arith, ints))

-- `1 << n`
pub power : (n : ℕ) → n ≤ 126 → to_z w128 (1 * 2 ^ n % 2 ^ 128) ≡ pos (2 ^ n)
power n h = ap (to_z w128) (one_shl n 128 (omega arith)) ∙ to_z_pos w128 (2 ^ n) (pow_below n 127 (omega arith))

times_one : (a b : ℕ) → a ≢ 0 → b ≤ a * b
times_one zero b h = absurd (h refl)
times_one (suc a) b h = omega arith

not_below : (m n : ℕ) → n < m → nat_lt m n ≡ false
not_below m n h = grind (arith, nat_tests)

pub far_is_large : (x : ℤ) (n : ℕ) → unsigned_abs x ≢ 0 → 126 < n → is_small (x *ℤ pos (2 ^ n)) ≡ false
far_is_large x n h g =
    let e : unsigned_abs (x *ℤ pos (2 ^ n)) ≡ unsigned_abs x * 2 ^ n = unsigned_abs-mul x (pos (2 ^ n)) in
    let a : 2 ^ n ≤ unsigned_abs x * 2 ^ n = times_one (unsigned_abs x) (2 ^ n) h in
    let b : 2 ^ 126 < 2 ^ n = pow_below 126 n g in
    let c : 2 ^ 126 < unsigned_abs (x *ℤ pos (2 ^ n)) = omega (arith, e, a, b) in
    not_below (unsigned_abs (x *ℤ pos (2 ^ n))) (2 ^ 126) c

pub nothing_is_zero : (x : ℤ) (n : ℕ) → unsigned_abs x ≡ 0 → x *ℤ pos (2 ^ n) ≡ pos 0
nothing_is_zero (pos zero) n h = zero-*ℤ (pos (2 ^ n))
nothing_is_zero (pos (suc m)) n h = absurd (omega arith)
nothing_is_zero (negsuc m) n h = absurd (omega arith)

none_left : (a n : ℕ) → a < 2 ^ 127 → 128 ≤ n → a / 2 ^ n ≡ 0
none_left a n h g =
    let b : 2 ^ 127 < 2 ^ n = pow_below 127 n (omega arith) in
    let c : a < 2 ^ n = omega (arith, h, b) in
    div-eq_of_lt c

pub far_below : (x : ℤ) (n : ℕ) → FitsSigned w128 x → x <ℤ pos 0 → 128 ≤ n → floor_div x (2 ^ n) ≡ negsuc 0
far_below (negsuc a) n f h g = ap negsuc (none_left a n (omega (arith, ints)) g)
far_below (pos a) n f h g = absurd (omega (arith, ints))

pub far_above : (x : ℤ) (n : ℕ) → FitsSigned w128 x → pos 0 ≤ℤ x → 128 ≤ n → floor_div x (2 ^ n) ≡ pos 0
far_above (pos a) n f h g = ap pos (none_left a n (omega (arith, ints)) g)
far_above (negsuc a) n f h g = absurd (omega (arith, ints))

-- What the calls answer. A signed number that is passed on is written and read as bits, which changes nothing.
abbrev passed : ℤ → ℤ
passed z = to_z w128 (of_z w128 z)

pub shl_returns : (x y : ℤ) (n : ℕ) (r : Option ℤ) → FitsSigned w128 x → FitsSigned w128 y → pos 0 ≤ℤ y → n ≡ unsigned_abs (passed y) → r ≡ small (Some (passed x *ℤ pos (2 ^ n))) → r ≡ small (Some (shl x y))
shl_returns x y n r f g h e k =
    k ∙ ap (λ (z : ℤ). small (Some (z *ℤ pos (2 ^ n)))) (to_z-of_z w128 x f)
    ∙ ap (λ (m : ℕ). small (Some (x *ℤ pos (2 ^ m)))) (e ∙ ap unsigned_abs (to_z-of_z w128 y g))
    ∙ ap (λ (z : ℤ). small (Some z)) (sym (shl_is x y h))

pub shr_returns : (x y : ℤ) (n : ℕ) (r : Option ℤ) → FitsSigned w128 x → FitsSigned w128 y → pos 0 ≤ℤ y → n ≡ unsigned_abs (passed y) → r ≡ small (Some (floor_div (passed x) (2 ^ n))) → r ≡ small (Some (shr x y))
shr_returns x y n r f g h e k =
    k ∙ ap (λ (z : ℤ). small (Some (floor_div z (2 ^ n)))) (to_z-of_z w128 x f)
    ∙ ap (λ (m : ℕ). small (Some (floor_div x (2 ^ m)))) (e ∙ ap unsigned_abs (to_z-of_z w128 y g))
    ∙ ap (λ (z : ℤ). small (Some z)) (sym (shr_is x y h))

pub product_returns : (x : ℤ) (n : ℕ) (r : Option ℤ) → FitsSigned w128 x → n ≤ 126 → r ≡ small (Some (passed x *ℤ to_z w128 (1 * 2 ^ n % 2 ^ 128))) → r ≡ small (Some (x *ℤ pos (2 ^ n)))
product_returns x n r f h k =
    k ∙ ap (λ (z : ℤ). small (Some (z *ℤ to_z w128 (1 * 2 ^ n % 2 ^ 128)))) (to_z-of_z w128 x f)
    ∙ ap (λ (z : ℤ). small (Some (x *ℤ z))) (power n h)
