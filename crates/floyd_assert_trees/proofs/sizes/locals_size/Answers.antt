use Rattle.std.proofs.Common.{arith}
use Rattle.floyd_assert_trees.specs.Sizes.{local_size}
use Rattle.floyd_assert_trees.proofs.Sums.{sum_at_end}
use Rattle.floyd_assert_trees.proofs.sizes.locals_size.Goals as goal

pub returns : goal.returns
returns c = omega (arith, c.locals.invariant, sum_at_end local_size c.args.locals.now c.locals.local-index (omega arith))
