-- Goals whose assertions have few existentials, and which have few variables. These count nothing in a goal's size, and what has
-- more of them finds no room.
use Rattle.std.specs.Prelude.{◌≤◌, ◌^◌, List, length}
use Rattle.std.specs.List.{AllByRecursion}
use Rattle.floyd_goal_bounds.specs.Bounds.{HasAtMost}
use Rattle.floyd_goal_trees.specs.Contexts.{context_of}
use Rattle.floyd_goal_trees.specs.declared.goal.Goal.{Goal}

abbrev pub HasFew : Goal → Type 0
HasFew goal = HasAtMost (2 ^ 32) goal

abbrev pub HasFewVariables : Goal → Type 0
HasFewVariables goal = length (context_of goal).variables ≤ 2 ^ 32

abbrev pub HasFewOfBoth : Goal → Type 0
HasFewOfBoth goal = HasFew goal × HasFewVariables goal

abbrev pub AllHaveFew : List Goal → Type 0
AllHaveFew goals = AllByRecursion HasFewOfBoth goals
