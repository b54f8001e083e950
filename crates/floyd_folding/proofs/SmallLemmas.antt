-- A number that does not fit is not small.
use Rattle.std.proofs.Common.{◌≡◌, ◌<◌, ◌^◌, ℤ, pos, negsuc, Bool, true, false, FitsSigned, refl, arith}
use Rattle.std.specs.Prelude.{unsigned_abs}
use Rattle.std.specs.Int.{w128}
use Rattle.std.proofs.lemmas.Bool.Decides.{nat_tests}
use Rattle.floyd_fieldpath.specs.Sums.{is_small}

small_fits : (z : ℤ) → unsigned_abs z < 2 ^ 126 → FitsSigned w128 z
small_fits (pos n) h = search arith
small_fits (negsuc n) h = search arith

pub not_small : (z : ℤ) → ¬ FitsSigned w128 z → is_small z ≡ false
not_small z h = by (is_small z) refl
  where
    by : (b : Bool) → is_small z ≡ b → b ≡ false
    by false e = refl
    by true e = absurd (h (small_fits z (grind (arith, nat_tests, e))))
