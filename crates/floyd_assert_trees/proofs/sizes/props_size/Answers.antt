use Rattle.std.proofs.Common.{arith}
use Rattle.floyd_tree.specs.Formulas.{formula_size}
use Rattle.floyd_assert_trees.proofs.Sums.{sum_at_end}
use Rattle.floyd_assert_trees.proofs.sizes.props_size.Goals as goal

pub returns : goal.returns
returns c = omega (arith, c.props.invariant, sum_at_end formula_size c.args.props.now c.props.prop-index (omega arith))
