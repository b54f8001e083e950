use Rattle.std.proofs.Common.{◌+◌, refl, arith}
use Rattle.floyd_assert_trees.specs.Sizes.{step_size}
use Rattle.floyd_assert_trees.proofs.Sums.{sum_at, sum_at_end}
use Rattle.floyd_assert_trees.proofs.sizes.path_size.Goals as goal

pub steps-preserved : goal.steps-preserved
steps-preserved c =
    omega (arith, c.saturating_add-all.ensures, c.step_size.ensures.value, c.steps.invariant, sum_at step_size c.args.path.now c.steps.i (c.steps.i + 1) c.step.result.now refl c.step.ensures)

pub returns : goal.returns
returns c = omega (arith, c.steps.invariant, sum_at_end step_size c.args.path.now c.steps.i (omega arith))
