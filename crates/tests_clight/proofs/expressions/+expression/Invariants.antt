use Rattle.std.proofs.Common.{◌+◌, ◌*◌}
use Rattle.tests_clight.proofs.expressions.+expression.Given as goal

abbrev pub decreases-shared_of : goal.decreases-shared_of
decreases-shared_of l = 2 * l.depth + 1

abbrev pub decreases-expression_of : goal.decreases-expression_of
decreases-expression_of l = 2 * l.depth
