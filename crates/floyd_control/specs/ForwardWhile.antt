-- `forward_while A`: of a loop whose first part begins with a test that breaks, and whose second part is empty. From A, whose
-- existentials are variables with new names, the body runs under the test to A, and what follows runs where it is not met.
use Rattle.std.specs.Prelude.{◌≡◌, Bool, true, false, not, ◌&&◌, if◌then◌else◌, List, [], ◌∷◌, ◌++◌, drop, Option, Some, None, Ok, Err, slice_get}
use Rattle.floyd_ctypes.specs.Structs.{Structs}
use Rattle.floyd_clight.specs.declared.syntax.Expr.{Expr}
use Rattle.floyd_clight.specs.declared.syntax.Stmt.{Stmt, If', Loop', Break, end_of-Stmt, more_of-Stmt}
use Rattle.floyd_clight.specs.Flat.{flat}
use Rattle.floyd_assert_trees.specs.declared.assertion.Assertion.{Assertion}
use Rattle.floyd_assert_changes.specs.Apart.{set_apart}
use Rattle.floyd_assert_changes.specs.Changed.{has_name}
use Rattle.floyd_conditions.specs.declared.branches.Condition.{Condition}
use Rattle.floyd_conditions.specs.Conditions.{condition}
use Rattle.floyd_fieldpath.specs.Written.{on_ok}
use Rattle.floyd_goal_trees.specs.Contexts.{after_command}
use Rattle.floyd_goal_trees.specs.declared.args.Args.{Args}
use Rattle.floyd_goal_trees.specs.declared.context.Context.{Context}
use Rattle.floyd_goal_trees.specs.declared.exits.Exit.TheVariants as x
use Rattle.floyd_goal_trees.specs.declared.exits.Exits.{Exits}
use Rattle.floyd_goal_trees.specs.declared.goal.Goal.{Goal}
use Rattle.floyd_goal_trees.specs.declared.goal.Goal.TheVariants as g
use Rattle.floyd_goal_trees.specs.declared.goal.Run.{Run}
use Rattle.floyd_goal.specs.Goals.{wrong_goal}
use Rattle.floyd_goal_parts.specs.Rows.{Answer, OfResult}
use Rattle.floyd_goal_runs.specs.Needing.{Needing}
use Rattle.floyd_control.specs.ForwardIf.{is_followed}
use Rattle.floyd_control.specs.ForwardLoop.{entered}
use Rattle.floyd_control.specs.Parts.{Named, behind, part_goal}

-- ---- the loop

-- `break` alone
abbrev pub is_break : List Stmt → Bool
is_break (Break ∷ []) = true
is_break ss = false

-- the first branch has no statements, and the second one breaks
abbrev pub passes : Stmt → Stmt → Bool
passes s t = not (is_followed (flat s)) && is_break (flat t)

-- the test of a statement that breaks where the test is not met
abbrev pub test_of : Stmt → Option Expr
test_of (If' e p (more_of-Stmt s end_of-Stmt) q (more_of-Stmt t end_of-Stmt)) = if passes s t then Some e else None
test_of s = None

abbrev pub first_test : Option Stmt → Option Expr
first_test None = None
first_test (Some s) = test_of s

abbrev pub with_body : List Stmt → Option Expr → Option (Expr × List Stmt)
with_body body None = None
with_body body (Some e) = Some (e, body)

-- statements that begin with such a test: the test, and the statements behind it
abbrev pub tested : List Stmt → Option (Expr × List Stmt)
tested ss = with_body (drop 1 ss) (first_test (slice_get ss 0))

-- the test and the body
abbrev pub while_of : Stmt → Option (Expr × List Stmt)
while_of (Loop' p (more_of-Stmt first end_of-Stmt) q (more_of-Stmt second end_of-Stmt)) = if is_followed (flat second) then None else tested (flat first)
while_of s = None

-- ---- the goals

-- from an assertion: its existentials are variables, and its PROP hypotheses
abbrev pub inside : Context → Assertion → Context
inside context a = record (after_command context) { variables = context.variables ++ a.existentials; hypotheses = context.hypotheses ++ a.props }

-- LOCAL and SEP alone
abbrev pub memory_of : Assertion → Assertion
memory_of a = record { existentials = []; props = []; locals = a.locals; parts = a.parts }

-- the body goes on to the test, also by continue, and may not break
abbrev pub body_exits : Exits → Assertion → Exits
body_exits exits invariant = record { normal = x.To invariant; brk = x.None; cont = x.To invariant; ret = exits.ret }

-- the goals behind Side: the body, and what follows
abbrev pub turned : Run → Assertion → Assertion → Condition → List Stmt → Context → Answer
turned run invariant source c body context =
    Ok (part_goal context source (body_exits run.exits invariant) c.branches.met body ∷ part_goal context source run.exits c.branches.unmet (behind run) ∷ [])

-- the goal that A holds at first stands before Side
abbrev pub entering : Goal → Answer → Answer
entering goal goals = on_ok goals (λ gs. Ok (goal ∷ gs))

-- Side, and the body and what follows, from A
abbrev pub Inside : Run → Assertion → Assertion → List Stmt → Condition → Answer → Type 0
Inside run invariant a body c = Needing (inside run.context a) (memory_of a) c.needs (turned run invariant (memory_of a) c body)

abbrev pub TurnsBy : Run → Assertion → Assertion → List Stmt → Condition → Answer → Type 0
TurnsBy run invariant a body c answer =
    (inner : Answer) × Inside run invariant a body c inner × (answer ≡ entering (entered run (after_command run.context) invariant) inner)

abbrev pub TurnsFrom : Structs → Run → Assertion → Expr → List Stmt → Assertion → Answer → Type 0
TurnsFrom structs run invariant e body a = OfResult (condition (memory_of a) structs e) (TurnsBy run invariant a body)

-- the names of A are no variables of the goal
abbrev pub Turns : Structs → Run → Assertion → Expr × List Stmt → Answer → Type 0
Turns structs run invariant loop =
    OfResult (set_apart (λ y. has_name y run.context.variables) invariant) (TurnsFrom structs run invariant loop.0 loop.1)

abbrev pub OfLoop : Structs → Run → List Assertion → Option (Expr × List Stmt) → Answer → Type 0
OfLoop structs run (a ∷ []) (Some loop) answer = Named run (Turns structs run a loop) answer
OfLoop structs run given loop answer = answer ≡ Err wrong_goal

abbrev pub OfNext : Structs → Run → List Assertion → Option Stmt → Answer → Type 0
OfNext structs run given None answer = answer ≡ Err wrong_goal
OfNext structs run given (Some s) answer = OfLoop structs run given (while_of s) answer

abbrev pub Row : Structs → Goal → Args → Answer → Type 0
Row structs (g.Run run) args answer = OfNext structs run args.assertions (slice_get run.rest 0) answer
Row structs (g.Entail entail) args answer = answer ≡ Err wrong_goal
Row structs (g.Pure pure) args answer = answer ≡ Err wrong_goal
