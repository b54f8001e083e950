-- What `induction` is given.
use Rattle.std.specs.Prelude.{◌≡◌}
use Rattle.floyd_assert_trees.specs.declared.items.Defs.{Defs}
use Rattle.floyd_goal_trees.specs.declared.args.Args.{Args}
use Rattle.floyd_goal_trees.specs.declared.args.Target.TheVariants.{Nothing}
use Rattle.floyd_goal_trees.specs.declared.goal.Goal.{Goal}
use Rattle.floyd_rewriting_soundness.specs.Small.{IsSmallGoal}

-- no hypothesis is named, and the assertions of the goal are not beyond all bounds
pub record InductionIsGiven (defs : Defs) (goal : Goal) (args : Args) : Type 0 where
  pub target : args.target ≡ Nothing
  pub few : IsSmallGoal goal
