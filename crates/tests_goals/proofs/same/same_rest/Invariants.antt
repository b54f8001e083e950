use Rattle.std.proofs.Common.{length}
use Rattle.tests_goals.proofs.same.same_rest.Given as goal

abbrev pub decreases-statements : goal.decreases-statements
decreases-statements l = length l.left
