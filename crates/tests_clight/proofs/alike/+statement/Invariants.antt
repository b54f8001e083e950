use Rattle.std.proofs.Common.{◌+◌, ◌*◌}
use Rattle.tests_clight.proofs.alike.+statement.Given as goal

abbrev pub decreases-same_cases : goal.decreases-same_cases
decreases-same_cases l = 2 * l.depth + 1

abbrev pub decreases-same_statements : goal.decreases-same_statements
decreases-same_statements l = 2 * l.depth + 1

abbrev pub decreases-same_at : goal.decreases-same_at
decreases-same_at l = 2 * l.depth
