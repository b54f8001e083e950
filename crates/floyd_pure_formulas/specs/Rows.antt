-- How the rows of commands are written. A row says of a goal, of what a command is given and of an answer whether it is the
-- right one: the goals that the command makes, or the refusal of the first condition that fails.
use Rattle.std.specs.Prelude.{◌≡◌, ◌⊎◌, List, [], ◌∷◌, ◌++◌, Option, Some, None, Result, Ok, Err}
use Rattle.floyd_text.specs.declared.refusal.No.{No}
use Rattle.floyd_tree.specs.Formulas.{PlainFormula}
use Rattle.floyd_assert_trees.specs.declared.binder.Binder.{Binder}
use Rattle.floyd_goal_trees.specs.Contexts.{after_command}
use Rattle.floyd_goal_trees.specs.declared.args.Args.{Args}
use Rattle.floyd_goal_trees.specs.declared.context.Context.{Context}
use Rattle.floyd_goal_trees.specs.declared.goal.Goal.{Goal}
use Rattle.floyd_goal_trees.specs.declared.goal.Goal.TheVariants as g
use Rattle.floyd_goal_trees.specs.declared.goal.Pure.{Pure}
use Rattle.floyd_goal.specs.declared.side_goals.Sides.{Sides}
use Rattle.floyd_goal.specs.Goals.{enriched, hypothesis_at, in_context, intros_first, is_pending, no_hypothesis, number_of, wrong_goal}
pub use Rattle.floyd_goal.specs.Rows.{Answer, Unless, after_side}
use Rattle.floyd_goal.specs.Sides.{Side, context_of}

abbrev pub Row : Type 1
Row = Goal → Args → Answer → Type 0

-- a refusal where P does not hold
abbrev pub Provided : Type 0 → No → (Answer → Type 0) → Answer → Type 0
Provided P refusal Next answer = (P × Next answer) ⊎ (¬ P × (answer ≡ Err refusal))

-- the goal is closed
abbrev pub Closes : Answer → Type 0
Closes answer = answer ≡ Ok []

-- the existentials of a source get names before any other command
abbrev pub WhenNamed : Goal → (Answer → Type 0) → Answer → Type 0
WhenNamed goal Next = Unless (is_pending goal) intros_first Next

-- a command on Pure goals alone
abbrev pub OfPure : Goal → (Pure → Answer → Type 0) → Answer → Type 0
OfPure (g.Run run) Next answer = answer ≡ Err wrong_goal
OfPure (g.Entail entail) Next answer = answer ≡ Err wrong_goal
OfPure (g.Pure pure) Next answer = Next pure answer

-- the hypothesis that the command names is absent, or of another form
abbrev pub no_such : Args → No
no_such args = no_hypothesis (number_of args.target)

abbrev pub OfFound : Option PlainFormula → No → (PlainFormula → Answer → Type 0) → Answer → Type 0
OfFound None refusal Next answer = answer ≡ Err refusal
OfFound (Some h) refusal Next answer = Next h answer

-- the hypothesis that the command names
abbrev pub named_by : Goal → Args → Option PlainFormula
named_by goal args = hypothesis_at (context_of goal).hypotheses (number_of args.target)

abbrev pub OfHypothesis : Goal → Args → (PlainFormula → Answer → Type 0) → Answer → Type 0
OfHypothesis goal args Next = OfFound (named_by goal args) (no_such args) Next

-- the goal with these hypotheses more
abbrev pub with_more : Goal → List PlainFormula → Goal
with_more goal fs = in_context goal (enriched (context_of goal) fs)

-- the premises that are kept are hypotheses before the conclusion
abbrev pub concluded : Goal → PlainFormula → Result Sides No → Answer
concluded goal conclusion (Err refusal) = Err refusal
concluded goal conclusion (Ok sides) = Ok (after_side sides.goal (with_more goal (sides.kept ++ conclusion ∷ []) ∷ []))

-- the premises are side formulas, and the conclusion is a hypothesis
abbrev pub Concludes : Goal → List PlainFormula → PlainFormula → Answer → Type 0
Concludes goal premises conclusion answer =
    (sides : Result Sides No) × Side (context_of goal) premises sides × (answer ≡ concluded goal conclusion sides)

-- behind a command, with these variables more
abbrev pub extended : Context → List Binder → Context
extended context bs = record (after_command context) { variables = context.variables ++ bs }
