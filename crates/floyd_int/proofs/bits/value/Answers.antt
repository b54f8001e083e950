use Rattle.std.proofs.Common.{◌<ℤ◌, ◌≤ℤ◌, pos, ◌∙◌, ap, arith}
use Rattle.std.proofs.lemmas.Int.{ints}
use Rattle.floyd_int.specs.Kind.{greatest, repr_of}
use Rattle.floyd_int.proofs.KindLaws.{pow-width_le, value-above, value-up_to, repr-value}
use Rattle.floyd_int.proofs.bits.value.Goals as goal

pub returns-then-z-greatest-clause-value : goal.returns-then-z-greatest-clause-value
returns-then-z-greatest-clause-value c =
    let bound = pow-width_le c.args.kind in
    let above : greatest c.args.kind <ℤ pos c.args.bits = omega (arith, ints) in
    let e = value-above c.args.kind c.args.bits c.requires above in
    omega (arith, ints)

pub returns-then-z-greatest-clause-back : goal.returns-then-z-greatest-clause-back
returns-then-z-greatest-clause-back c =
    ap (repr_of c.args.kind) (returns-then-z-greatest-clause-value c) ∙ repr-value c.args.kind c.args.bits c.requires

pub returns-else-z-greatest-clause-value : goal.returns-else-z-greatest-clause-value
returns-else-z-greatest-clause-value c =
    let bound = pow-width_le c.args.kind in
    let within : pos c.args.bits ≤ℤ greatest c.args.kind = omega (arith, ints) in
    let e = value-up_to c.args.kind c.args.bits c.requires within in
    omega (arith, ints)

pub returns-else-z-greatest-clause-back : goal.returns-else-z-greatest-clause-back
returns-else-z-greatest-clause-back c =
    ap (repr_of c.args.kind) (returns-else-z-greatest-clause-value c) ∙ repr-value c.args.kind c.args.bits c.requires
