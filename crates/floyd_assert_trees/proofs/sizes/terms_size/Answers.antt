use Rattle.std.proofs.Common.{arith}
use Rattle.floyd_tree.specs.Plain.{size}
use Rattle.floyd_assert_trees.proofs.Sums.{sum_at_end}
use Rattle.floyd_assert_trees.proofs.sizes.terms_size.Goals as goal

pub returns : goal.returns
returns c = omega (arith, c.terms.invariant, sum_at_end size c.args.terms.now c.terms.term-index (omega arith))
