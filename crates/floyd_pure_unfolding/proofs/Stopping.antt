-- Where an assertion or a formula is refused, the goal is; and what the call answers is what the row says.
use Rattle.std.proofs.Common.{◌≡◌, true, false, List, Option, Result, Err, ap}
use Rattle.std.specs.Prelude.{bytes_eq}
use Rattle.std.specs.Map.{lookup}
use Rattle.floyd_text.specs.declared.refusal.No.{No}
use Rattle.floyd_text.specs.declared.refusal.RuleStop.{RuleStop}
use Rattle.floyd_text.specs.declared.refusal.RuleStop.TheVariants as r
use Rattle.floyd_text.specs.Gives.{RuleGives, RuleStops}
use Rattle.floyd_tree.specs.Formulas.{PlainFormula}
use Rattle.floyd_assert_trees.specs.declared.assertion.Assertion.{Assertion}
use Rattle.floyd_assert_trees.specs.declared.items.Defs.{Defs}
use Rattle.floyd_goal_trees.specs.declared.args.Args.{Args}
use Rattle.floyd_goal_trees.specs.declared.goal.Goal.{Goal}
use Rattle.floyd_goal_trees.specs.declared.goal.Pure.{Pure}
use Rattle.floyd_goal_trees.specs.declared.goal.Run.{Run}
use Rattle.floyd_goal.specs.Answers.{IsAnswer}
use Rattle.floyd_goal.specs.Goals.{intros_first, is_pending}
use Rattle.floyd_pure_formulas.proofs.Answering.{given, passes, unless_stops}
use Rattle.floyd_pure_rewriting.specs.Changing.{pure_by, run_by}
use Rattle.floyd_pure_unfolding.specs.Row.{Row, unfolded_by}

pub run_stops : (stop : RuleStop) (run : Run) (source : Result (Option Assertion) No) → RuleStops stop source → RuleStops stop (run_by run source)
run_stops (r.No refusal) run source e = ap (run_by run) e
run_stops r.Memory run source e = tt

pub pure_stops : (stop : RuleStop) (pure : Pure) (target : Result (Option PlainFormula) No) → RuleStops stop target → RuleStops stop (pure_by pure target)
pure_stops (r.No refusal) pure target e = ap (pure_by pure) e
pure_stops r.Memory pure target e = tt

pub unfold_pending : (defs : Defs) (goal : Goal) (args : Args) → is_pending goal ≡ true → Row defs goal args (Err intros_first)
unfold_pending defs goal args e = unless_stops (is_pending goal) intros_first (λ answer. answer ≡ unfolded_by args.name (lookup (bytes_eq args.name) defs.funs) goal) e

pub unfold_goes : (defs : Defs) (goal : Goal) (args : Args) (result : Result (List Goal) RuleStop) → is_pending goal ≡ false → RuleGives (λ gs. gs) result (unfolded_by args.name (lookup (bytes_eq args.name) defs.funs) goal) → IsAnswer (Row defs goal args) result
unfold_goes defs goal args result e h =
    passes (is_pending goal) intros_first (λ answer. answer ≡ unfolded_by args.name (lookup (bytes_eq args.name) defs.funs) goal) result e (given (unfolded_by args.name (lookup (bytes_eq args.name) defs.funs) goal) result h)
