use Rattle.std.proofs.Common.{arith}
use Rattle.floyd_assert_trees.specs.Sizes.{part_size}
use Rattle.floyd_assert_trees.proofs.Sums.{sum_at_end}
use Rattle.floyd_assert_trees.proofs.sizes.parts_size.Goals as goal

pub returns : goal.returns
returns c = omega (arith, c.parts.invariant, sum_at_end part_size c.args.parts.now c.parts.part-index (omega arith))
