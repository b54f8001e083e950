-- `forward_loop A [continue C] break Q`: the first part of a loop runs from A to C, the second from C to A, and what follows
-- from Q. Without C the second part is empty, and C is A.
use Rattle.std.specs.Prelude.{◌≡◌, List, [], ◌∷◌, Option, Some, None, Ok, Err, slice_get}
use Rattle.floyd_clight.specs.declared.syntax.Stmt.{Stmt, Loop', end_of-Stmt, more_of-Stmt}
use Rattle.floyd_clight.specs.Flat.{flat}
use Rattle.floyd_assert_trees.specs.declared.assertion.Assertion.{Assertion}
use Rattle.floyd_goal_trees.specs.Contexts.{after_command}
use Rattle.floyd_goal_trees.specs.declared.args.Args.{Args}
use Rattle.floyd_goal_trees.specs.declared.context.Context.{Context}
use Rattle.floyd_goal_trees.specs.declared.exits.Exit.TheVariants as x
use Rattle.floyd_goal_trees.specs.declared.exits.Exits.{Exits}
use Rattle.floyd_goal_trees.specs.declared.goal.Goal.{Goal}
use Rattle.floyd_goal_trees.specs.declared.goal.Goal.TheVariants as g
use Rattle.floyd_goal_trees.specs.declared.goal.Run.{Run}
use Rattle.floyd_goal.specs.Goals.{wrong_goal}
use Rattle.floyd_goal_parts.specs.Rows.{Answer, Unless}
use Rattle.floyd_control.specs.ForwardIf.{is_followed}
use Rattle.floyd_control.specs.Parts.{Named, behind, runs_from}

-- what the command is given: A, C and Q
pub record Given : Type 0 where
  pub invariant : Assertion
  pub between : Assertion
  pub left : Assertion

-- the first part goes on to the second, also by continue
abbrev pub first_exits : Exits → Given → Exits
first_exits exits given = record { normal = x.To given.between; brk = x.To given.left; cont = x.To given.between; ret = exits.ret }

-- the second part goes on to the first, and may not continue
abbrev pub second_exits : Exits → Given → Exits
second_exits exits given = record { normal = x.To given.invariant; brk = x.To given.left; cont = x.None; ret = exits.ret }

-- the source gives what holds before the first part
abbrev pub entered : Run → Context → Assertion → Goal
entered run context a = g.Entail (record { context = context; source = run.source; target = a })

abbrev pub first_goal : Run → Context → Given → Stmt → Goal
first_goal run context given first = runs_from context given.invariant (flat first) (first_exits run.exits given)

abbrev pub second_goal : Run → Context → Given → Stmt → Goal
second_goal run context given second = runs_from context given.between (flat second) (second_exits run.exits given)

-- what follows
abbrev pub left_goal : Run → Context → Given → Goal
left_goal run context given = runs_from context given.left (behind run) run.exits

abbrev pub looped : Run → Context → Given → Stmt → Stmt → List Goal
looped run context given first second =
    entered run context given.invariant ∷ first_goal run context given first ∷ second_goal run context given second ∷ left_goal run context given ∷ []

abbrev pub Loops : Run → Given → Stmt → Stmt → Answer → Type 0
Loops run given first second answer = answer ≡ Ok (looped run (after_command run.context) given first second)

abbrev pub LoopsWith : Run → List Assertion → Stmt → Stmt → Answer → Type 0
LoopsWith run (a ∷ q ∷ []) first second answer =
    Unless (is_followed (flat second)) wrong_goal (Named run (Loops run (record { invariant = a; between = a; left = q }) first second)) answer
LoopsWith run (a ∷ c ∷ q ∷ []) first second answer = Named run (Loops run (record { invariant = a; between = c; left = q }) first second) answer
LoopsWith run given first second answer = answer ≡ Err wrong_goal

abbrev pub OfStatement : Run → List Assertion → Stmt → Answer → Type 0
OfStatement run given (Loop' p (more_of-Stmt first end_of-Stmt) q (more_of-Stmt second end_of-Stmt)) answer = LoopsWith run given first second answer
OfStatement run given s answer = answer ≡ Err wrong_goal

abbrev pub OfNext : Run → List Assertion → Option Stmt → Answer → Type 0
OfNext run given None answer = answer ≡ Err wrong_goal
OfNext run given (Some s) answer = OfStatement run given s answer

abbrev pub Row : Goal → Args → Answer → Type 0
Row (g.Run run) args answer = OfNext run args.assertions (slice_get run.rest 0) answer
Row (g.Entail entail) args answer = answer ≡ Err wrong_goal
Row (g.Pure pure) args answer = answer ≡ Err wrong_goal
