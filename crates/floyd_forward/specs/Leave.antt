-- `forward` on break and continue: that exit is met.
use Rattle.std.specs.Prelude.{◌≡◌, [], ◌∷◌, Ok, Err}
use Rattle.floyd_text.specs.declared.code.Code.TheVariants as c
use Rattle.floyd_text.specs.declared.refusal.No.{No}
use Rattle.floyd_goal_trees.specs.Contexts.{after_command}
use Rattle.floyd_goal_trees.specs.declared.exits.Exit.{Exit}
use Rattle.floyd_goal_trees.specs.declared.exits.Exit.TheVariants as x
use Rattle.floyd_goal_trees.specs.declared.goal.Goal.TheVariants.{Entail}
use Rattle.floyd_goal_trees.specs.declared.goal.Run.{Run}
use Rattle.floyd_goal.specs.Goals.{refusal}
use Rattle.floyd_goal_parts.specs.Rows.{Answer}

-- the statements may not be left so
abbrev pub no_exit : No
no_exit = refusal c.NoExit

abbrev pub left_by : Run → Exit → Answer
left_by run (x.To target) = Ok (Entail (record { context = after_command run.context; source = run.source; target = target }) ∷ [])
left_by run x.None = Err no_exit
left_by run x.End = Err no_exit

abbrev pub Leaves : Run → Exit → Answer → Type 0
Leaves run exit answer = answer ≡ left_by run exit
