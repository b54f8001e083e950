-- Where an assertion or a formula is refused, the goal is.
use Rattle.std.proofs.Common.{Option, Result, ap}
use Rattle.floyd_text.specs.declared.refusal.No.{No}
use Rattle.floyd_text.specs.declared.refusal.RuleStop.{RuleStop}
use Rattle.floyd_text.specs.declared.refusal.RuleStop.TheVariants as r
use Rattle.floyd_text.specs.Gives.{RuleStops}
use Rattle.floyd_tree.specs.Formulas.{PlainFormula}
use Rattle.floyd_assert_trees.specs.declared.assertion.Assertion.{Assertion}
use Rattle.floyd_goal_trees.specs.declared.goal.Pure.{Pure}
use Rattle.floyd_goal_trees.specs.declared.goal.Run.{Run}
use Rattle.floyd_pure_rewriting.specs.Changing.{run_by}
use Rattle.floyd_pure_simplifying.specs.Simpl.{pure_simplified}

pub run_stops : (stop : RuleStop) (run : Run) (source : Result (Option Assertion) No) → RuleStops stop source → RuleStops stop (run_by run source)
run_stops (r.No refusal) run source e = ap (run_by run) e
run_stops r.Memory run source e = tt

pub pure_stops : (stop : RuleStop) (pure : Pure) (target : Result (Option PlainFormula) No) → RuleStops stop target → RuleStops stop (pure_simplified pure target)
pure_stops (r.No refusal) pure target e = ap (pure_simplified pure) e
pure_stops r.Memory pure target e = tt
