use Rattle.std.proofs.Common.{◌+◌, ◌*◌}
use Rattle.tests_clight.proofs.statements.+statement.Given as goal

abbrev pub decreases-shared_of : goal.decreases-shared_of
decreases-shared_of l = 3 * l.depth + 1

abbrev pub decreases-statement_of : goal.decreases-statement_of
decreases-statement_of l = 3 * l.depth

abbrev pub decreases-all_of : goal.decreases-all_of
decreases-all_of l = 3 * l.depth + 1

abbrev pub decreases-cases_of : goal.decreases-cases_of
decreases-cases_of l = 3 * l.depth + 2
