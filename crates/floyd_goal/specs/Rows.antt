-- What the rows of all commands share. A row says of a goal, of what a command is given and of an answer whether it is the
-- right one: the goals that the command makes, or the refusal of the first condition that fails.
use Rattle.std.specs.Prelude.{◌≡◌, Bool, true, false, List, ◌∷◌, Option, Some, None, Result, Err}
use Rattle.floyd_text.specs.declared.refusal.No.{No}
use Rattle.floyd_goal_trees.specs.declared.goal.Goal.{Goal}
use Rattle.floyd_goal_trees.specs.declared.goal.Goal.TheVariants as g
use Rattle.floyd_goal_trees.specs.declared.goal.Pure.{Pure}

abbrev pub Answer : Type 0
Answer = Result (List Goal) No

-- a refusal where it is met, else what comes behind it
abbrev pub Unless : Bool → No → (Answer → Type 0) → Answer → Type 0
Unless true refusal Next answer = answer ≡ Err refusal
Unless false refusal Next answer = Next answer

-- the goal of the side formulas, if there is one, before the others
abbrev pub after_side : Option Pure → List Goal → List Goal
after_side None goals = goals
after_side (Some pure) goals = g.Pure pure ∷ goals
