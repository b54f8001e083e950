-- A goal with formulas more, which are true where its hypotheses are.
use Rattle.std.proofs.Common.{◌≡◌, List, [], ◌∷◌, ◌++◌, map, Option, Some, None, Ok, refl, ap, subst, ◌∙◌}
use Rattle.floyd_tree.specs.Formulas.{PlainFormula}
use Rattle.floyd_tree_values.specs.BuiltIns.{Env}
use Rattle.floyd_tree_values.specs.Means.{Defs}
use Rattle.floyd_tree_values.specs.Rules.{DefsKeep, Suits}
use Rattle.floyd_truth.specs.Truth.{Truth, AllTrue}
use Rattle.floyd_goal_trees.specs.Contexts.{after_command}
use Rattle.floyd_goal_trees.specs.declared.context.Context.{Context}
use Rattle.floyd_goal_trees.specs.declared.goal.Goal.{Goal}
use Rattle.floyd_goal_trees.specs.declared.goal.Goal.TheVariants as g
use Rattle.floyd_goal_trees.specs.declared.goal.Pure.{Pure}
use Rattle.floyd_goal.specs.Goals.{pure_goal}
use Rattle.floyd_goal.specs.Sides.{Side, context_of}
use Rattle.floyd_goal_truth.specs.Scopes.{AllFit, scope_of}
use Rattle.floyd_goal_truth.specs.Truths.{Under}
use Rattle.floyd_goal_truth.proofs.Sides.{TargetTrue, side_context, side_sound_at}
use Rattle.floyd_goal_truth.proofs.Uses.{all_true}
use Rattle.floyd_pure_formulas.specs.Holds.{Specs, Adds, AddsTrue, Refutes}
use Rattle.floyd_pure_formulas.specs.Keeps.{AreTrueFrom, KeepsTruth}
use Rattle.floyd_pure_formulas.specs.Rows.{Row, Concludes, after_side, with_more}
use Rattle.floyd_pure_formulas.proofs.Going.{itself}
use Rattle.floyd_pure_formulas.proofs.Rowing.{sides_found}

abbrev targets_of : Option Pure → List PlainFormula
targets_of None = []
targets_of (Some pure) = pure.target ∷ []

-- a goal that stands before others asks for its target
after_goals : (context : Context) (o : Option Pure) (goals : List Goal) → ((p : Pure) → o ≡ Some p → p.context ≡ after_command context) → after_side o goals ≡ map (pure_goal context) (targets_of o) ++ goals
after_goals context None goals same = refl
after_goals context (Some pure) goals same = ap (λ c. g.Pure (record { context = c; target = pure.target }) ∷ goals) (same pure refl)

module _ (defs : Defs) (specs : Specs) where
  asked_true : (context : Context) (fs : List PlainFormula) (back : List Goal) (env : Env) → Suits (scope_of context) env → AllTrue defs specs env context.hypotheses → AreTrueFrom defs specs context env (map (pure_goal context) fs ++ back) → AllTrue defs specs env fs × AreTrueFrom defs specs context env back
  asked_true context [] back env suits hyps t = (tt, t)
  asked_true context (f ∷ fs) back env suits hyps t =
      let p = asked_true context fs back env suits hyps t.1 in
      ((t.0 env suits hyps (itself context env), p.0), p.1)

  target_true : (env : Env) (o : Option Pure) → AllTrue defs specs env (targets_of o) → TargetTrue defs specs env o
  target_true env None t = tt
  target_true env (Some pure) t = t.0

  -- a Pure goal is true where the goals are to which formulas were added
  pub from_adds : (pure : Pure) (goals : List Goal) → Adds defs specs (g.Pure pure) goals → Under defs specs pure.context (λ env. AreTrueFrom defs specs pure.context env goals → Truth defs specs env pure.target)
  from_adds pure goals a env suits hyps proved =
      let both = asked_true pure.context a.asked (with_more (g.Pure pure) a.added ∷ []) env suits hyps (subst (AreTrueFrom defs specs pure.context env) a.made proved) in
      both.1.0 env suits (all_true defs specs env pure.context.hypotheses a.added hyps (a.hold env suits hyps both.0)) (itself pure.context env)

  -- a goal whose side formulas are premises, and the conclusion that follows from them
  pub concludes_adds : (goal : Goal) (premises : List PlainFormula) (c : PlainFormula) (goals : List Goal) → DefsKeep defs → AllFit defs (context_of goal) premises → Under defs specs (context_of goal) (λ env. AllTrue defs specs env premises → Truth defs specs env c) → Concludes goal premises c (Ok goals) → Adds defs specs goal goals
  concludes_adds goal premises c goals keeps fit follows row =
      let r = sides_found goal c row.0 goals row.2 in
      let side : Side (context_of goal) premises (Ok r.0) = subst (Side (context_of goal) premises) r.1 row.1 in
      record {
        asked = targets_of r.0.goal;
        added = r.0.kept ++ c ∷ [];
        made = r.2 ∙ after_goals (context_of goal) r.0.goal (with_more goal (r.0.kept ++ c ∷ []) ∷ []) (side_context (context_of goal) premises r.0 side);
        hold = λ env suits hyps asked.
            let both = side_sound_at defs specs (context_of goal) premises r.0 env keeps fit side suits hyps (target_true env r.0.goal asked) in
            all_true defs specs env r.0.kept (c ∷ []) both.1 (follows env suits hyps both.0, tt);
      }

pub keeps_by_adding : (R : Row) → AddsTrue R → KeepsTruth R
keeps_by_adding R adds defs specs pure args goals keeps hyps_fit target_fit args_fit row =
    from_adds defs specs pure goals (adds defs specs (g.Pure pure) args goals keeps hyps_fit args_fit row)

pub keeps_by_refuting : (R : Row) → Refutes R → KeepsTruth R
keeps_by_refuting R refutes defs specs pure args goals keeps hyps_fit target_fit args_fit row env suits hyps proved =
    absurd ((refutes defs specs (g.Pure pure) args goals row).1 env suits hyps)
