-- `simpl` simplifies the terms and formulas of a goal.
use Rattle.std.specs.Prelude.{◌≡◌, Bool, true, false, if◌then◌else◌, [], Option, Some, None, Result, Ok, Err}
use Rattle.floyd_text.specs.declared.refusal.No.{No}
use Rattle.floyd_tree_sorts.specs.declared.connectives.FormulaHead.{FormulaHead}
use Rattle.floyd_tree_sorts.specs.declared.connectives.FormulaHead.TheVariants.{True}
use Rattle.floyd_tree.specs.Formulas.{PlainFormula, form_of}
use Rattle.floyd_goal_trees.specs.declared.goal.Goal.{Goal}
use Rattle.floyd_goal_trees.specs.declared.goal.Goal.TheVariants as g
use Rattle.floyd_goal_trees.specs.declared.goal.Pure.{Pure}
use Rattle.floyd_simplifying.specs.Assertions.{assertion_simplified}
use Rattle.floyd_simplifying.specs.Simplified.{formula_simplified}
use Rattle.floyd_pure_formulas.specs.Rows.{Answer, Row, WhenNamed}
use Rattle.floyd_pure_rewriting.specs.Changing.{entail_by, no_occurrence, pure_by, run_by}

abbrev pub is_truth : FormulaHead → Bool
is_truth True = true
is_truth head = false

-- the goal with its target simplified, which is closed where the target is True, also where nothing changed
abbrev pub pure_simplified : Pure → Result (Option PlainFormula) No → Answer
pure_simplified pure (Err refusal) = Err refusal
pure_simplified pure (Ok None) = if is_truth (form_of pure.target) then Ok [] else Err no_occurrence
pure_simplified pure (Ok (Some target)) = if is_truth (form_of target) then Ok [] else pure_by pure (Ok (Some target))

abbrev pub simplified_goal : Goal → Answer
simplified_goal (g.Run run) = run_by run (assertion_simplified run.source)
simplified_goal (g.Entail entail) = entail_by entail (assertion_simplified entail.source) (assertion_simplified entail.target)
simplified_goal (g.Pure pure) = pure_simplified pure (formula_simplified pure.target)

abbrev pub SimplRow : Row
SimplRow goal args answer = WhenNamed goal (λ given. given ≡ simplified_goal goal) answer
