-- `destruct` keeps truth, and what its calls ask for.
use Rattle.std.proofs.Common.{◌≡◌, List, Some, Ok, refl}
use Rattle.floyd_tree.specs.Formulas.{PlainFormula}
use Rattle.floyd_tree_values.specs.Means.{Defs}
use Rattle.floyd_truth.specs.Truth.{Truth}
use Rattle.floyd_goal_trees.specs.declared.args.Args.{Args}
use Rattle.floyd_goal_trees.specs.declared.args.Target as t
use Rattle.floyd_goal_trees.specs.declared.goal.Goal.{Goal}
use Rattle.floyd_goal_trees.specs.declared.goal.Goal.TheVariants as g
use Rattle.floyd_goal_trees.specs.declared.goal.Pure.{Pure}
use Rattle.floyd_goal.specs.Goals.{intros_first, is_pending, number_of}
use Rattle.floyd_goal.specs.Sides.{context_of}
use Rattle.floyd_goal_formulas.specs.Fits.{Fits}
use Rattle.floyd_goal_formulas.specs.Said.{Saying, ThereIs, said}
use Rattle.floyd_goal_truth.specs.Scopes.{AllFit, scope_of}
use Rattle.floyd_goal_truth.specs.Truths.{Under}
use Rattle.floyd_goal_truth.proofs.Uses.{hypothesis_fits}
use Rattle.floyd_pure_formulas.specs.Destruct.{DestructRow, OfTarget}
use Rattle.floyd_pure_formulas.specs.Holds.{Specs}
use Rattle.floyd_pure_formulas.specs.Keeps.{AreTrueFrom, KeepsTruth}
use Rattle.floyd_pure_formulas.specs.OpeningClauses.{CanOpen}
use Rattle.floyd_pure_formulas.specs.Rows.{named_by}
use Rattle.floyd_pure_formulas.proofs.CasesTrue.{hypothesis_splitting, split_true}
use Rattle.floyd_pure_formulas.proofs.Rowing.{passed}
use Rattle.floyd_pure_formulas.proofs.Shapes.{there_is, there_is_fits}
use Rattle.floyd_pure_formulas.proofs.Substituting.{body_takes}
use Rattle.floyd_pure_formulas.proofs.VariableTrue.{variable_true}

of_target : (defs : Defs) (specs : Specs) (pure : Pure) (args : Args) (goals : List Goal) → AllFit defs pure.context pure.context.hypotheses → Fits defs (scope_of pure.context) pure.target → (target : t.Target) → OfTarget (g.Pure pure) args target (Ok goals) → Under defs specs pure.context (λ env. AreTrueFrom defs specs pure.context env goals → Truth defs specs env pure.target)
of_target defs specs pure args goals hyps_fit fit t.TheVariants.Nothing row = variable_true defs specs pure args goals hyps_fit fit row
of_target defs specs pure args goals hyps_fit fit (t.TheVariants.Part k) row = variable_true defs specs pure args goals hyps_fit fit row
of_target defs specs pure args goals hyps_fit fit (t.TheVariants.Hypothesis k) row =
    split_true defs specs pure goals hyps_fit fit (hypothesis_splitting defs specs (g.Pure pure) args goals hyps_fit row)

pub destruct_true : KeepsTruth DestructRow
destruct_true defs specs pure args goals keeps hyps_fit fit args_fit row =
    of_target defs specs pure args goals hyps_fit fit args.target (passed (is_pending (g.Pure pure)) intros_first (OfTarget (g.Pure pure) args args.target) goals row)

-- a hypothesis that is well formed can be opened
can_open : (defs : Defs) (goal : Goal) (h : PlainFormula) → Fits defs (scope_of (context_of goal)) h → (s : Saying) → said h ≡ s → CanOpen s
can_open defs goal h fit (ThereIs y s body) e =
    let scope = scope_of (context_of goal) in
    body_takes defs scope y s body (there_is_fits defs scope y s body h (there_is y s body h e) fit)
can_open defs goal h fit s e = tt

pub can_open_named : (defs : Defs) (goal : Goal) (args : Args) → AllFit defs (context_of goal) (context_of goal).hypotheses → (h : PlainFormula) → named_by goal args ≡ Some h → CanOpen (said h)
can_open_named defs goal args fit h e =
    can_open defs goal h (hypothesis_fits defs (scope_of (context_of goal)) (context_of goal).hypotheses (number_of args.target) h e fit) (said h) refl
