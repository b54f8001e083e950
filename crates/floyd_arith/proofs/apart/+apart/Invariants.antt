use Rattle.std.proofs.Common.{◌+◌, ◌*◌, max}
use Rattle.floyd_tree.specs.Plain.{height}
use Rattle.floyd_arith.proofs.apart.+apart.Given as goal

abbrev pub decreases-apart : goal.decreases-apart
decreases-apart l = 4 * height l.t.now

abbrev pub decreases-by_operator : goal.decreases-by_operator
decreases-by_operator l = 4 * max (height l.a.now) (height l.b.now) + 3

abbrev pub decreases-sum : goal.decreases-sum
decreases-sum l = 4 * max (height l.a.now) (height l.b.now) + 2

abbrev pub decreases-product : goal.decreases-product
decreases-product l = 4 * max (height l.a.now) (height l.b.now) + 2

abbrev pub decreases-multiple : goal.decreases-multiple
decreases-multiple l = 4 * height l.t.now + 1
