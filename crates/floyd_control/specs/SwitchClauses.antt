-- The goals of a switch whose bodies have given exits.
use Rattle.std.specs.Prelude.{List, [], ◌∷◌, ◌++◌, Ok}
use Rattle.floyd_clight.specs.declared.syntax.Case.{Case}
use Rattle.floyd_assert_trees.specs.declared.assertion.Assertion.{Assertion}
use Rattle.floyd_fieldpath.specs.Written.{on_ok}
use Rattle.floyd_goal_parts.specs.Rows.{Answer}
use Rattle.floyd_goal_trees.specs.declared.context.Context.{Context}
use Rattle.floyd_goal_trees.specs.declared.exits.Exits.{Exits}
use Rattle.floyd_goal_trees.specs.declared.goal.Run.{Run}
use Rattle.floyd_symexpr_rows.specs.declared.needs.Number.{Number}
use Rattle.floyd_control.specs.ForwardSwitch.{case_goals, has_default, labels_of, otherwise}
use Rattle.floyd_control.specs.Parts.{behind, runs_from}

abbrev pub switched_by : Run → Assertion → List Case → Number → Context → Exits → Answer
switched_by run to cases a context exits =
    on_ok (case_goals run a (labels_of cases) context exits cases) (λ goals.
    on_ok (otherwise run a (labels_of cases) context to (has_default (labels_of cases))) (λ more.
    Ok (goals ++ more ++ runs_from context to (behind run) run.exits ∷ [])))
