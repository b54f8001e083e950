-- `forward_if [A]`: each branch runs under its test to A, and what follows runs from A. Without A no statement may follow, and
-- the branches run to the normal exit.
use Rattle.std.specs.Prelude.{◌≡◌, Bool, true, false, List, [], ◌∷◌, ◌++◌, Option, Some, None, Ok, Err, slice_get}
use Rattle.floyd_ctypes.specs.Structs.{Structs}
use Rattle.floyd_clight.specs.declared.syntax.Expr.{Expr}
use Rattle.floyd_clight.specs.declared.syntax.Stmt.{Stmt, If', end_of-Stmt, more_of-Stmt}
use Rattle.floyd_clight.specs.Flat.{flat}
use Rattle.floyd_assert_trees.specs.declared.assertion.Assertion.{Assertion}
use Rattle.floyd_conditions.specs.declared.branches.Branches.{Branches}
use Rattle.floyd_conditions.specs.declared.branches.Condition.{Condition}
use Rattle.floyd_conditions.specs.Conditions.{condition}
use Rattle.floyd_goal_trees.specs.declared.args.Args.{Args}
use Rattle.floyd_goal_trees.specs.declared.context.Context.{Context}
use Rattle.floyd_goal_trees.specs.declared.exits.Exit.{Exit}
use Rattle.floyd_goal_trees.specs.declared.exits.Exit.TheVariants as x
use Rattle.floyd_goal_trees.specs.declared.exits.Exits.{Exits}
use Rattle.floyd_goal_trees.specs.declared.goal.Goal.{Goal}
use Rattle.floyd_goal_trees.specs.declared.goal.Goal.TheVariants as g
use Rattle.floyd_goal_trees.specs.declared.goal.Run.{Run}
use Rattle.floyd_goal.specs.Goals.{wrong_goal}
use Rattle.floyd_goal_parts.specs.Rows.{Answer, OfResult, Unless}
use Rattle.floyd_goal_runs.specs.Needing.{Needing}
use Rattle.floyd_control.specs.Parts.{Named, behind, part_goal, runs_from}

-- the exits with another normal one
abbrev pub with_normal : Exits → Exit → Exits
with_normal exits exit = record exits { normal = exit }

-- a branch where the test is met, and one where it is not
abbrev pub both : Run → Exit → Branches → Stmt → Stmt → Context → List Goal
both run exit b s t context =
    part_goal context run.source (with_normal run.exits exit) b.met (flat s) ∷ part_goal context run.source (with_normal run.exits exit) b.unmet (flat t) ∷ []

-- the goals behind Side: the branches, and what follows from an assertion, if there is one
abbrev pub last : Run → Option Assertion → Context → List Goal
last run None context = []
last run (Some a) context = runs_from context a (behind run) run.exits ∷ []

abbrev pub exit_to : Run → Option Assertion → Exit
exit_to run None = run.exits.normal
exit_to run (Some a) = x.To a

abbrev pub divided : Run → Option Assertion → Branches → Stmt → Stmt → Context → Answer
divided run a b s t context = Ok (both run (exit_to run a) b s t context ++ last run a context)

abbrev pub DividesBy : Run → Option Assertion → Stmt → Stmt → Condition → Answer → Type 0
DividesBy run a s t c = Needing run.context run.source c.needs (divided run a c.branches s t)

abbrev pub Divides : Structs → Run → Option Assertion → Expr → Stmt → Stmt → Answer → Type 0
Divides structs run a e s t = OfResult (condition run.source structs e) (DividesBy run a s t)

abbrev pub is_followed : List Stmt → Bool
is_followed [] = false
is_followed (s ∷ ss) = true

abbrev pub Ifs : Structs → Run → List Assertion → Expr → Stmt → Stmt → Answer → Type 0
Ifs structs run [] e s t answer = Unless (is_followed (behind run)) wrong_goal (Named run (Divides structs run None e s t)) answer
Ifs structs run (a ∷ []) e s t answer = Named run (Divides structs run (Some a) e s t) answer
Ifs structs run (a ∷ b ∷ more) e s t answer = answer ≡ Err wrong_goal

abbrev pub OfStatement : Structs → Run → List Assertion → Stmt → Answer → Type 0
OfStatement structs run given (If' e p (more_of-Stmt s end_of-Stmt) q (more_of-Stmt t end_of-Stmt)) answer = Ifs structs run given e s t answer
OfStatement structs run given s answer = answer ≡ Err wrong_goal

abbrev pub OfNext : Structs → Run → List Assertion → Option Stmt → Answer → Type 0
OfNext structs run given None answer = answer ≡ Err wrong_goal
OfNext structs run given (Some s) answer = OfStatement structs run given s answer

abbrev pub Row : Structs → Goal → Args → Answer → Type 0
Row structs (g.Run run) args answer = OfNext structs run args.assertions (slice_get run.rest 0) answer
Row structs (g.Entail entail) args answer = answer ≡ Err wrong_goal
Row structs (g.Pure pure) args answer = answer ≡ Err wrong_goal
