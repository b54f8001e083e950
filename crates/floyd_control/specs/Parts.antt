-- Goals of parts of a statement, and goals from an assertion that a command is given.
use Rattle.std.specs.Prelude.{Bool, true, false, List, [], ◌∷◌, drop}
use Rattle.floyd_clight.specs.declared.syntax.Stmt.{Stmt}
use Rattle.floyd_tree.specs.Formulas.{PlainFormula}
use Rattle.floyd_assert_trees.specs.declared.assertion.Assertion.{Assertion}
use Rattle.floyd_goal_forms.specs.Starts.{run_goal}
use Rattle.floyd_goal_trees.specs.Contexts.{with_hypotheses}
use Rattle.floyd_goal_trees.specs.declared.context.Context.{Context}
use Rattle.floyd_goal_trees.specs.declared.exits.Exits.{Exits}
use Rattle.floyd_goal_trees.specs.declared.goal.Goal.{Goal}
use Rattle.floyd_goal_trees.specs.declared.goal.Run.{Run}
use Rattle.floyd_goal.specs.Goals.{intros_first, some_left}
use Rattle.floyd_goal_parts.specs.Rows.{Answer, Unless}

-- once the existentials of the source have names
abbrev pub Named : Run → (Answer → Type 0) → Answer → Type 0
Named run Next = Unless (some_left run.source.existentials) intros_first Next

-- the statements run from the source, under one hypothesis more
abbrev pub part_goal : Context → Assertion → Exits → PlainFormula → List Stmt → Goal
part_goal context source exits f ss = run_goal (record { context = with_hypotheses context (f ∷ []); source = source; rest = ss; exits = exits })

-- An assertion as a source: without existentials its PROP are hypotheses.
abbrev pub context_from : Bool → Context → Assertion → Context
context_from true context a = context
context_from false context a = with_hypotheses context a.props

abbrev pub source_from : Bool → Assertion → Assertion
source_from true a = a
source_from false a = record a { props = [] }

-- the statements run from the assertion
abbrev pub runs_from : Context → Assertion → List Stmt → Exits → Goal
runs_from context a ss exits = run_goal (record {
  context = context_from (some_left a.existentials) context a;
  source = source_from (some_left a.existentials) a;
  rest = ss;
  exits = exits;
})

-- the statements behind the next one
abbrev pub behind : Run → List Stmt
behind run = drop 1 run.rest
