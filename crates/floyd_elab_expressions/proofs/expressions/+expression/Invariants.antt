use Rattle.std.proofs.Common.{◌+◌, length}
use Rattle.floyd_elab_expressions.proofs.Weights.{weight}
use Rattle.floyd_elab_expressions.proofs.expressions.+expression.Given as goal

abbrev pub decreases-expression : goal.decreases-expression
decreases-expression l = weight l.e.now

abbrev pub decreases-rvalue : goal.decreases-rvalue
decreases-rvalue l = weight l.e.now + 1

abbrev pub decreases-with_prefixes : goal.decreases-with_prefixes
decreases-with_prefixes l = length l.prefixes.now + weight l.operand.now + 1

abbrev pub decreases-operation : goal.decreases-operation
decreases-operation l = weight l.parts.left.now + weight l.parts.right.now + 2

abbrev pub decreases-element : goal.decreases-element
decreases-element l = weight l.parts.left.now + weight l.parts.right.now + 2

abbrev pub decreases-logical : goal.decreases-logical
decreases-logical l = weight l.parts.left.now + weight l.parts.right.now + 2

abbrev pub decreases-conditional : goal.decreases-conditional
decreases-conditional l = weight l.parts.condition.now + weight l.parts.then.now + weight l.parts.otherwise.now + 2
