use Rattle.std.proofs.Common.{◌+◌, ◌*◌}
use Rattle.tests_laws.proofs.printing.+terms.Given as goal

abbrev pub decreases-print_term : goal.decreases-print_term
decreases-print_term l = 3 * l.depth

abbrev pub decreases-print_operator : goal.decreases-print_operator
decreases-print_operator l = 3 * l.depth + 2

abbrev pub decreases-print_side : goal.decreases-print_side
decreases-print_side l = 3 * l.depth + 1

abbrev pub decreases-print_call : goal.decreases-print_call
decreases-print_call l = 3 * l.depth + 1
