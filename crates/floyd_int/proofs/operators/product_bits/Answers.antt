use Rattle.std.proofs.Common.{sym, arith}
use Rattle.std.proofs.lemmas.Nat.{one_shl}
use Rattle.floyd_int.specs.Kind.{width}
use Rattle.floyd_int.proofs.KindLaws.{width_le, repr-value_mul}
use Rattle.floyd_int.proofs.operators.product_bits.Goals as goal

pub returns-clause-bits : goal.returns-clause-bits
returns-clause-bits c =
    let bound = width_le c.args.kind in
    rw (c.from.ensures, c.from-2.ensures, c.width.ensures, one_shl (width c.args.kind) 128 (omega arith))
    (sym (repr-value_mul c.args.kind c.args.a c.args.b c.requires.left c.requires.right))
