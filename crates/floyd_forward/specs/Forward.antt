-- `forward`: the next statement of a Run goal is done, or its end.
use Rattle.std.specs.Prelude.{◌≡◌, Option, Some, None, Err, slice_get}
use Rattle.floyd_ctypes.specs.Structs.{Structs}
use Rattle.floyd_clight.specs.declared.syntax.Stmt.{Stmt, Set, Assign, Break, Continue, Return}
use Rattle.floyd_goal_trees.specs.declared.exits.Exit.{Exit}
use Rattle.floyd_goal_trees.specs.declared.exits.Exit.TheVariants as x
use Rattle.floyd_goal_trees.specs.declared.goal.Goal.{Goal}
use Rattle.floyd_goal_trees.specs.declared.goal.Goal.TheVariants as g
use Rattle.floyd_goal_trees.specs.declared.goal.Run.{Run}
use Rattle.floyd_goal.specs.Goals.{intros_first, some_left, wrong_goal}
use Rattle.floyd_goal_parts.specs.Rows.{Answer, Unless}
use Rattle.floyd_forward.specs.Assign.{Assigns}
use Rattle.floyd_forward.specs.Leave.{Leaves}
use Rattle.floyd_forward.specs.Return.{Returns}
use Rattle.floyd_forward.specs.Set.{Sets}

-- once the existentials of the source have names
abbrev pub Named : Run → (Answer → Type 0) → Answer → Type 0
Named run Next = Unless (some_left run.source.existentials) intros_first Next

-- another statement is none for this command
abbrev pub OfStatement : Structs → Run → Stmt → Answer → Type 0
OfStatement structs run (Set x e) answer = Named run (Sets structs run x e) answer
OfStatement structs run (Assign p e) answer = Named run (Assigns structs run p e) answer
OfStatement structs run (Return e) answer = Named run (Returns structs run e) answer
OfStatement structs run Break answer = Named run (Leaves run run.exits.brk) answer
OfStatement structs run Continue answer = Named run (Leaves run run.exits.cont) answer
OfStatement structs run s answer = answer ≡ Err wrong_goal

-- where no statement is left, the function's end
abbrev pub AtEnd : Structs → Run → Exit → Answer → Type 0
AtEnd structs run x.End answer = Named run (Returns structs run None) answer
AtEnd structs run exit answer = answer ≡ Err wrong_goal

abbrev pub OfNext : Structs → Run → Option Stmt → Answer → Type 0
OfNext structs run (Some s) answer = OfStatement structs run s answer
OfNext structs run None answer = AtEnd structs run run.exits.normal answer

-- the command takes no arguments
abbrev pub Row : Structs → Goal → Answer → Type 0
Row structs (g.Run run) answer = OfNext structs run (slice_get run.rest 0) answer
Row structs (g.Entail entail) answer = answer ≡ Err wrong_goal
Row structs (g.Pure pure) answer = answer ≡ Err wrong_goal
