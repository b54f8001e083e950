use Rattle.std.proofs.Common.{◌≡◌, ◌^◌, pos, sym, ◌∙◌, ap, arith, to_z, of_z, rules}
use Rattle.std.proofs.lemmas.Int.{ints, to_z-of_z}
use Rattle.std.specs.Int.{w128}
use Rattle.std.specs.Int.RustNames.{unsigned_abs, FitsSigned}
use Rattle.floyd_int.specs.Kind.{width, repr_of, value_of}
use Rattle.floyd_int.proofs.KindLaws.{pow-width_le, value-repr, InRange-from_value}
use Rattle.floyd_int.proofs.bits.repr.Goals as goal

pub returns-clause-bits : goal.returns-clause-bits
unfolding repr_of
returns-clause-bits c =
    let bound = pow-width_le c.args.kind in
    let fits : FitsSigned w128 c.rem_euclid.result = search rules in
    let size : to_z w128 (of_z w128 c.modulus.result) ≡ pos (2 ^ width c.args.kind) = omega (arith, ints) in
    let same = to_z-of_z w128 c.args.z c.ranges.z in
    let e = rw (size, same) at c.rem_euclid.ensures.value in
    ap unsigned_abs (to_z-of_z w128 c.rem_euclid.result fits ∙ e)

pub returns-clause-kept : goal.returns-clause-kept
returns-clause-kept c =
    let e = returns-clause-bits c in
    ((λ h. ap (value_of c.args.kind) e ∙ value-repr c.args.kind c.args.z h), (λ h. InRange-from_value c.args.kind c.args.z (ap (value_of c.args.kind) (sym e) ∙ h)))
