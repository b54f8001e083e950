use Rattle.std.proofs.Common.{◌+◌, length}
use Rattle.floyd_ctyping.proofs.Weights.{weight}
use Rattle.floyd_ctyping.proofs.walk.+walk.Given as goal

abbrev pub decreases-operand_of : goal.decreases-operand_of
decreases-operand_of l = weight l.e.now

abbrev pub decreases-prefixed_operand : goal.decreases-prefixed_operand
decreases-prefixed_operand l = length l.prefixes.now + weight l.operand.now + 1

abbrev pub decreases-binary_operand : goal.decreases-binary_operand
decreases-binary_operand l = weight l.left.now + weight l.right.now + 2

abbrev pub decreases-logical : goal.decreases-logical
decreases-logical l = weight l.left.now + weight l.right.now + 1

abbrev pub decreases-element : goal.decreases-element
decreases-element l = weight l.array.now + weight l.index.now + 1

abbrev pub decreases-conditional : goal.decreases-conditional
decreases-conditional l = weight l.choice.condition.now + weight l.choice.then.now + weight l.choice.otherwise.now + 1
