use Rattle.std.proofs.Common.{◌≡◌, ◌++◌, ◌≤◌, length}
use Rattle.floyd_assert_trees.specs.Sizes.{sum_of}
use Rattle.floyd_goal_trees.specs.Sizes.{goal_size}
use Rattle.floyd_goal.specs.Stacks.{most}
use Rattle.floyd_goal.proofs.stack.GoalStack.under_all.Given as goal

abbrev pub decreases-made : goal.decreases-made
decreases-made l = length l.made

abbrev pub invariant-made : goal.invariant-made
invariant-made l = record {
  goals : l.made ++ l.stack ≡ l.fn.made ++ l.fn.self;
  small : sum_of goal_size l.stack ≤ most;
}
