use Rattle.std.proofs.Common.{◌+◌, ◌*◌}
use Rattle.tests_clight.proofs.types.+ctype.Given as goal

abbrev pub decreases-ctype_of : goal.decreases-ctype_of
decreases-ctype_of l = 2 * l.depth + 1

abbrev pub decreases-group_of : goal.decreases-group_of
decreases-group_of l = 2 * l.depth
