use Rattle.std.proofs.Common.{◌+◌, ◌*◌}
use Rattle.floyd_symexpr.proofs.Weights.{weight}
use Rattle.floyd_symexpr.proofs.expressions.+read.Given as goal

abbrev pub decreases-value : goal.decreases-value
decreases-value g l = 6 * weight l.e.now + 2

abbrev pub decreases-value_of_object : goal.decreases-value_of_object
decreases-value_of_object g l = 6 * weight l.e.now + 1

abbrev pub decreases-place : goal.decreases-place
decreases-place g l = 6 * weight l.e.now

abbrev pub decreases-behind : goal.decreases-behind
decreases-behind g l = 6 * weight l.e.now + 4

abbrev pub decreases-behind_type : goal.decreases-behind_type
decreases-behind_type g l = 6 * weight l.e.now + 3

abbrev pub decreases-elements : goal.decreases-elements
decreases-elements g l = 6 * weight l.e.now + 3

abbrev pub decreases-sum_behind : goal.decreases-sum_behind
decreases-sum_behind g l = 6 * weight l.a.now + 6 * weight l.b.now + 6
