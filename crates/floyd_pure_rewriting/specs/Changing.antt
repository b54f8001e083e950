-- A goal of which a part changes: its target, or what holds before, or what holds before and behind. Where nothing changes it
-- is refused. Hypotheses, and what statements are left by, stay.
use Rattle.std.specs.Prelude.{[], ◌∷◌, Option, Some, None, Result, Ok, Err}
use Rattle.std.specs.Option.{unwrap_or}
use Rattle.floyd_text.specs.declared.code.Code.TheVariants as c
use Rattle.floyd_text.specs.declared.refusal.No.{No}
use Rattle.floyd_tree.specs.Formulas.{PlainFormula}
use Rattle.floyd_assert_trees.specs.declared.assertion.Assertion.{Assertion}
use Rattle.floyd_goal_trees.specs.Contexts.{after_command}
use Rattle.floyd_goal_trees.specs.declared.goal.Entail as e
use Rattle.floyd_goal_trees.specs.declared.goal.Goal.TheVariants.{Run, Entail, Pure}
use Rattle.floyd_goal_trees.specs.declared.goal.Pure as p
use Rattle.floyd_goal_trees.specs.declared.goal.Run as r
use Rattle.floyd_goal.specs.Goals.{refusal}
use Rattle.floyd_pure_formulas.specs.Rows.{Answer}

abbrev pub no_occurrence : No
no_occurrence = refusal c.NoOccurrence

abbrev pub run_by : r.Run → Result (Option Assertion) No → Answer
run_by run (Err refusal) = Err refusal
run_by run (Ok None) = Err no_occurrence
run_by run (Ok (Some source)) = Ok (Run (record run { context = after_command run.context; source = source }) ∷ [])

abbrev pub entail_by : e.Entail → Result (Option Assertion) No → Result (Option Assertion) No → Answer
entail_by entail (Err refusal) target = Err refusal
entail_by entail (Ok source) (Err refusal) = Err refusal
entail_by entail (Ok None) (Ok None) = Err no_occurrence
entail_by entail (Ok None) (Ok (Some target)) = Ok (Entail (record { context = after_command entail.context; source = entail.source; target = target }) ∷ [])
entail_by entail (Ok (Some source)) (Ok target) = Ok (Entail (record { context = after_command entail.context; source = source; target = unwrap_or target entail.target }) ∷ [])

abbrev pub pure_by : p.Pure → Result (Option PlainFormula) No → Answer
pure_by pure (Err refusal) = Err refusal
pure_by pure (Ok None) = Err no_occurrence
pure_by pure (Ok (Some target)) = Ok (Pure (record { context = after_command pure.context; target = target }) ∷ [])
