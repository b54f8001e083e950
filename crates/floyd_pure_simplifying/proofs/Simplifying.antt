-- A goal is true where the simplified one is, and what the call answers is what the row says.
use Rattle.std.proofs.Common.{◌≡◌, ◌↔◌, Bool, true, false, cond, List, [], ◌∷◌, Option, Some, None, Result, Ok, Err, refl, subst}
use Rattle.floyd_text.specs.declared.refusal.No.{No}
use Rattle.floyd_text.specs.declared.refusal.RuleStop.{RuleStop}
use Rattle.floyd_text.specs.Gives.{RuleGives}
use Rattle.floyd_tree_sorts.specs.declared.connectives.FormulaHead.TheVariants.{True}
use Rattle.floyd_tree.specs.Formulas.{PlainFormula, Says, form_of}
use Rattle.floyd_tree_values.specs.BuiltIns.{Env}
use Rattle.floyd_tree_values.specs.Means.{Defs}
use Rattle.floyd_truth.specs.Truth.{Truth}
use Rattle.floyd_goal_trees.specs.Contexts.{after_command}
use Rattle.floyd_goal_trees.specs.declared.args.Args.{Args}
use Rattle.floyd_goal_trees.specs.declared.goal.Goal.{Goal}
use Rattle.floyd_goal_trees.specs.declared.goal.Goal.TheVariants as g
use Rattle.floyd_goal_trees.specs.declared.goal.Pure.{Pure}
use Rattle.floyd_goal.specs.Answers.{IsAnswer}
use Rattle.floyd_goal.specs.Goals.{intros_first, is_pending}
use Rattle.floyd_goal_truth.specs.Scopes.{scope_of}
use Rattle.floyd_simplifying.specs.Simplified.{formula_simplified}
use Rattle.floyd_simplifying.proofs.Keeps.{truth_kept}
use Rattle.floyd_pure_formulas.specs.Holds.{Specs}
use Rattle.floyd_pure_formulas.specs.Keeps.{AreTrueFrom, KeepsTruth}
use Rattle.floyd_pure_formulas.specs.Rows.{Answer}
use Rattle.floyd_pure_formulas.proofs.Answering.{given, passes, unless_stops}
use Rattle.floyd_pure_formulas.proofs.Going.{itself}
use Rattle.floyd_pure_formulas.proofs.Rowing.{goals_are, no_goals, passed}
use Rattle.floyd_pure_simplifying.specs.Simpl.{SimplRow, is_truth, pure_simplified, simplified_goal}

pub simpl_pending : (goal : Goal) (args : Args) → is_pending goal ≡ true → SimplRow goal args (Err intros_first)
simpl_pending goal args e = unless_stops (is_pending goal) intros_first (λ answer. answer ≡ simplified_goal goal) e

pub simpl_goes : (goal : Goal) (args : Args) (result : Result (List Goal) RuleStop) → is_pending goal ≡ false → RuleGives (λ gs. gs) result (simplified_goal goal) → IsAnswer (SimplRow goal args) result
simpl_goes goal args result e h =
    passes (is_pending goal) intros_first (λ answer. answer ≡ simplified_goal goal) result e (given (simplified_goal goal) result h)

truth_true : (defs : Defs) (specs : Specs) (env : Env) (f : PlainFormula) → is_truth (form_of f) ≡ true → Truth defs specs env f
truth_true defs specs env (Says True terms kids) e = tt
truth_true defs specs env (Says head terms kids) e = absurd cc

-- the goal of another target
abbrev goal_of : Pure → PlainFormula → Goal
goal_of pure made = g.Pure (record { context = after_command pure.context; target = made })

pub simpl_true : KeepsTruth SimplRow
simpl_true defs specs pure args goals keeps hyps_fit fit args_fit row env suits hyps proved =
    by (formula_simplified pure.target) refl (passed (is_pending (g.Pure pure)) intros_first (λ answer. answer ≡ simplified_goal (g.Pure pure)) goals row)
  where
    from_made : (made : PlainFormula) (b : Bool) → is_truth (form_of made) ≡ b → Truth defs specs env made ↔ Truth defs specs env pure.target → ◌≡◌ {A = Answer} (Ok goals) (cond b (Ok []) (Ok (goal_of pure made ∷ []))) → Truth defs specs env pure.target
    from_made made true i k e = k.0 (truth_true defs specs env made i)
    from_made made false i k e =
        let one : AreTrueFrom defs specs pure.context env (goal_of pure made ∷ []) = subst (AreTrueFrom defs specs pure.context env) (goals_are goals (goal_of pure made ∷ []) e) proved in
        k.0 (one.0 env suits hyps (itself pure.context env))

    from_own : (b : Bool) (refusal : No) → is_truth (form_of pure.target) ≡ b → ◌≡◌ {A = Answer} (Ok goals) (cond b (Ok []) (Err refusal)) → Truth defs specs env pure.target
    from_own true refusal i e = truth_true defs specs env pure.target i
    from_own false refusal i e = absurd (no_goals goals refusal e)

    by : (r : Result (Option PlainFormula) No) → formula_simplified pure.target ≡ r → Ok goals ≡ pure_simplified pure r → Truth defs specs env pure.target
    by (Ok (Some made)) i e = from_made made (is_truth (form_of made)) refl (truth_kept defs specs (scope_of pure.context) env pure.target made keeps suits fit i) e
    by (Ok None) i e = from_own (is_truth (form_of pure.target)) _ refl e
    by (Err refusal) i e = absurd (no_goals goals refusal e)
