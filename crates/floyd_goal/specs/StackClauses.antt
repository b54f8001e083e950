-- What the nodes of a stack keep.
use Rattle.std.specs.Prelude.{◌≡◌, ◌≤◌, List, [], ◌∷◌, length, Option, Some, None}
use Rattle.std.specs.declared.rc.Rc.{Rc}
use Rattle.std.specs.declared.alloc.Global.{Global}
use Rattle.floyd_assert_trees.specs.Sizes.{sum_of}
use Rattle.floyd_goal_trees.specs.declared.goal.Goal.{Goal}
use Rattle.floyd_goal_trees.specs.Sizes.{goal_size}
use Rattle.floyd_goal.specs.declared.stack.GoalNode.{GoalNode}
use Rattle.floyd_goal.specs.Stacks.{most}

abbrev pub goals_of : GoalNode → List Goal
goals_of n = n.goal ∷ n.below

abbrev pub goals_in : Option (Rc GoalNode Global) → List Goal
goals_in None = []
goals_in (Some n) = goals_of n.value

pub record IsCounted (n : GoalNode) : Type 0 where
  pub count : n.count ≡ length (goals_of n)
  pub size : n.size ≡ sum_of goal_size (goals_of n)
  pub small : n.size ≤ most
  pub low : n.count ≤ most

abbrev pub IsStack : Option (Rc GoalNode Global) → Type 0
IsStack None = Unit {0}
IsStack (Some n) = IsCounted n.value
