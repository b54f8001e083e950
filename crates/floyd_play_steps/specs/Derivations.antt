-- Derivations over the rows, without numbers: what is left to be shown of goals, step by step, until nothing is.
use Rattle.std.specs.Prelude.{◌≡◌, List, [], ◌∷◌, ◌++◌, Ok}
use Rattle.floyd_assert_trees.specs.declared.items.Defs.{Defs}
use Rattle.floyd_assert_trees.specs.declared.spec.SpecTable.{SpecTable}
use Rattle.floyd_clight.specs.declared.unit.Local.{Local}
use Rattle.floyd_goal.specs.Stacks.{pushed}
use Rattle.floyd_goal_trees.specs.declared.args.Args.{Args}
use Rattle.floyd_goal_trees.specs.declared.goal.Goal.{Goal}
use Rattle.floyd_script_trees.specs.declared.trees.Command.{Command}
use Rattle.floyd_play_reading.specs.Arguments.{AreRead}
use Rattle.floyd_play_rows.specs.Rows.{Row}
use Rattle.floyd_play_steps.specs.declared.state.Start.{Start}
use Rattle.floyd_play_steps.specs.Few.{HasFew, HasFewVariables}
use Rattle.floyd_play_steps.specs.Forms.{IsCommand}

-- what a command makes of the first goal, with arguments that were read in that goal's context; what is then left is within
-- the limit
pub record Makes (defs : Defs) (specs : SpecTable) (blocks : List Local) (goal : Goal) (left made : List Goal) : Type 0 where
  pub command : Command
  pub own : IsCommand command
  pub args : Args
  pub few : HasFew goal
  pub variables : HasFewVariables goal
  pub read : AreRead command.bytes command.tokens defs specs blocks goal command.rule (Ok args)
  pub row : Row defs command.rule goal args (Ok made)
  pub within : pushed made (goal ∷ left) ≡ Ok (made ++ left)

-- each step puts the goals of a row in place of the first goal
pub data Derives (defs : Defs) (specs : SpecTable) (blocks : List Local) : List Goal → Type 0 where
  done : Derives defs specs blocks []
  step : {goal : Goal} {left : List Goal} (made : List Goal) → Makes defs specs blocks goal left made → Derives defs specs blocks (made ++ left) → Derives defs specs blocks (goal ∷ left)

-- from the start goals, which are within the limit
pub record HasDerivation (defs : Defs) (specs : SpecTable) (start : Start) : Type 0 where
  pub within : pushed start.goals [] ≡ Ok start.goals
  pub derives : Derives defs specs start.blocks start.goals
