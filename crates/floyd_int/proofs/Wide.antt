-- What the arithmetic on 128 bits gives at values of a kind.
use Rattle.std.proofs.Common.{◌≡◌, ℕ, ◌-◌, ◌*◌, ◌/◌, ◌%◌, ◌^◌, ◌<◌, ◌≤◌, true, ℤ, pos, negsuc, neg_ℤ, ◌*ℤ◌, to_z, of_z, FitsSigned, refl, ◌∙◌, ap, arith, lit<, zero, suc}
use Rattle.std.specs.Int.{w128}
use Rattle.std.specs.Prelude.{int_div, unsigned_abs}
use Rattle.std.proofs.lemmas.Int.{to_z-of_z, to_z_pos, fits_signed_from_abs, fits_signed_mul}
use Rattle.std.proofs.lemmas.Nat.{one_shl, pow_below}
use Rattle.std.proofs.Math.Nat.{div-le_self}
use Rattle.std.proofs.Math.Pow.{pow_mono}
use Rattle.floyd_int.specs.declared.kinds.IntKind.{IntKind}
use Rattle.floyd_int.specs.Kind.{is_signed, InRange}
use Rattle.floyd_int.proofs.KindLaws.{InRange-abs, InRange-signed_abs}

pub InRange-fits : (k : IntKind) (z : ℤ) → InRange k z → FitsSigned w128 z
InRange-fits k z h = fits_signed_from_abs w128 z (omega (arith, InRange-abs k z h))

-- a product of two values of a signed kind
pub product_fits : (k : IntKind) (x y : ℤ) → is_signed k ≡ true → InRange k x → InRange k y → FitsSigned w128 (x *ℤ y)
product_fits k x y s f g = fits_signed_mul w128 x y (2 ^ 63) (2 ^ 63) (InRange-signed_abs k x s f) (InRange-signed_abs k y s g) (lit< tt)

pub wide_product : (x y : ℤ) → FitsSigned w128 x → FitsSigned w128 y → FitsSigned w128 (x *ℤ y) → to_z w128 (of_z w128 (to_z w128 (of_z w128 x) *ℤ to_z w128 (of_z w128 y))) ≡ x *ℤ y
wide_product x y f g h = (λ i. to_z w128 (of_z w128 (to_z-of_z w128 x f i *ℤ to_z-of_z w128 y g i))) ∙ to_z-of_z w128 (x *ℤ y) h

abs-neg : (n : ℕ) → unsigned_abs (neg_ℤ (pos n)) ≡ n
abs-neg zero = refl
abs-neg (suc n) = refl

quotient_abs : (x y : ℤ) → unsigned_abs (int_div x y) ≤ unsigned_abs x
quotient_abs (pos a) (pos b) = div-le_self a b
quotient_abs (pos a) (negsuc b) = rw (abs-neg (a / suc b)) (div-le_self a (suc b))
quotient_abs (negsuc a) (pos b) = rw (abs-neg (suc a / b)) (div-le_self (suc a) b)
quotient_abs (negsuc a) (negsuc b) = div-le_self (suc a) (suc b)

pub quotient_fits : (k : IntKind) (x y : ℤ) → InRange k x → FitsSigned w128 (int_div x y)
quotient_fits k x y h = fits_signed_from_abs w128 (int_div x y) (omega (arith, InRange-abs k x h, quotient_abs x y))

-- `1 << n`
pub wide_power : (n : ℕ) → n < 64 → to_z w128 (1 * 2 ^ n % 2 ^ 128) ≡ pos (2 ^ n)
wide_power n h = ap (to_z w128) (one_shl n 128 (omega arith)) ∙ to_z_pos w128 (2 ^ n) (pow_below n 127 (omega arith))

-- x times 2 to the n
pub shifted_fits : (k : IntKind) (x : ℤ) (n : ℕ) → InRange k x → n < 64 → FitsSigned w128 (x *ℤ pos (2 ^ n))
shifted_fits k x n h below =
    let most : n ≤ 63 = omega arith in
    fits_signed_mul w128 x (pos (2 ^ n)) (2 ^ 64 - 1) (2 ^ 63) (omega (arith, InRange-abs k x h)) (pow_mono most) (lit< tt)
