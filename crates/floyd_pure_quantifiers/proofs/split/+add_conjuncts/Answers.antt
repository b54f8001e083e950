use Rattle.std.proofs.Common.{arith}
use Rattle.floyd_pure_quantifiers.proofs.Taking.{both_lower}
use Rattle.floyd_pure_quantifiers.proofs.split.+add_conjuncts.Goals as goal

pub add_conjuncts-requires : goal.add_conjuncts-requires
add_conjuncts-requires t c = (omega (arith, c.decreases, (both_lower c.args.f.now c.in-Both.a.now c.in-Both.b.now c.in-Both.ensures).0), tt)

pub add_conjuncts-requires-in-Both : goal.add_conjuncts-requires-in-Both
add_conjuncts-requires-in-Both t c = (omega (arith, c.decreases, (both_lower c.args.f.now c.in-Both.a.now c.in-Both.b.now c.in-Both.ensures).1), tt)
