-- The goal from a source that a row has written.
use Rattle.std.proofs.Common.{◌≡◌, ℕ, List, [], ◌∷◌, ◌++◌, Ok, refl, subst}
use Rattle.std.specs.Prelude.{if◌then◌else◌}
use Rattle.floyd_clight_heap.specs.Heaplet.{Heaplet}
use Rattle.floyd_clight_machine.specs.Evaluation.{Temps}
use Rattle.floyd_tree.specs.Formulas.{PlainFormula}
use Rattle.floyd_tree_values.specs.BuiltIns.{Env}
use Rattle.floyd_truth.specs.Truth.{AllTrue}
use Rattle.floyd_assert_trees.specs.declared.assertion.Assertion.{Assertion}
use Rattle.floyd_assert_trees.specs.declared.binder.Binder.{Binder}
use Rattle.floyd_assert_trees.specs.declared.items.Defs.{Defs}
use Rattle.floyd_assert_trees.specs.declared.spec.SpecTable.{SpecTable}
use Rattle.floyd_assert_meaning.specs.Assertions.{Holds}
use Rattle.floyd_assert_meaning.specs.Settings.{Setting, with_data}
use Rattle.floyd_goal.specs.Goals.{enriched, some_left}
use Rattle.floyd_goal_trees.specs.Contexts.{context_of}
use Rattle.floyd_goal_trees.specs.declared.context.Context.{Context}
use Rattle.floyd_goal_trees.specs.declared.goal.Goal.{Goal}
use Rattle.floyd_goal_trees.specs.declared.goal.Goal.TheVariants.{Run, Entail, Pure}
use Rattle.floyd_goal_meaning.specs.declared.linked.Linked.{Linked}
use Rattle.floyd_goal_meaning.specs.GoalHolds.{Given, HoldsIn, HoldsUnder}
use Rattle.floyd_goal_meaning.specs.Programs.{Further, Places, setting}
use Rattle.floyd_goal_laws.proofs.Givens.{given_more}
use Rattle.floyd_goal_parts.specs.Sources.{from_source, source_of}
use Rattle.floyd_entail_predicates.specs.Settling.{settled, without_props}
use Rattle.floyd_entail_soundness.proofs.Sources.{named}
use Rattle.floyd_entail_soundness.proofs.Written.{both_true}

module _ (L : Linked) (more : List Further) (place : Places) (defs : Defs) (specs : SpecTable) (n : ℕ) where
  abbrev S : Setting
  S = setting L more place

  -- a goal follows from the one whose source holds, and whose hypotheses are true, wherever its own source holds
  pub from_both : (goal : Goal) (context : Context) (source new : Assertion) (env : Env) → source_of goal ≡ Ok source → ((temps : Temps) (h : Heaplet) → Holds S env source temps h → Given S defs context env × Holds S env new temps h) →
      HoldsIn L more place defs specs n (from_source goal context new) → HoldsUnder L more place specs n env goal
  from_both (Run run) context source new env e f h = λ keeps act k s.
      let q = f act.temps k (subst (λ a. Holds S env a act.temps k) (named run.source source e).0 s.holds) in
      h env q.0 keeps act k (record { result = s.result; blocks = s.blocks; distinct = s.distinct; places = s.places; holds = q.1 })
  from_both (Entail entail) context source new env e f h = λ temps k s.
      let q = f temps k (subst (λ a. Holds S env a temps k) (named entail.source source e).0 s) in
      h env q.0 temps k q.1
  from_both (Pure pure) context source new env e f h = absurd cc

  module _ (goal : Goal) (source new : Assertion) (kept : List PlainFormula) (env : Env) (is : source_of goal ≡ Ok source) (goes : (temps : Temps) (h : Heaplet) → Holds S env source temps h → Holds S env new temps h) (given : Given S defs (context_of goal) env) (true' : AllTrue S.defs S.has_spec env kept) where
    by_existentials : (bs : List Binder) → new.existentials ≡ bs →
        HoldsIn L more place defs specs n (if some_left bs then from_source goal (enriched (context_of goal) kept) new else from_source goal (enriched (context_of goal) (kept ++ new.props)) (without_props new)) →
        HoldsUnder L more place specs n env goal
    by_existentials (b ∷ bs) e h = from_both goal (enriched (context_of goal) kept) source new env is (λ temps k x. (given_more S defs env (context_of goal) kept given true', goes temps k x)) h
    by_existentials [] e h =
        from_both goal (enriched (context_of goal) (kept ++ new.props)) source (without_props new) env is
        (λ temps k x.
        let y = goes temps k x in
        let props = subst (λ bs. AllTrue S.defs S.has_spec (with_data env bs y.witnesses) new.props) e y.props in (
          given_more S defs env (context_of goal) (kept ++ new.props) given (both_true S.defs env S.has_spec kept new.props true' props),
          record { witnesses = y.witnesses; sorted = y.sorted; props = tt; locals = y.locals; parts = y.parts },
        ))
        h

    -- its PROP may stand among the hypotheses
    pub settled_holds : HoldsIn L more place defs specs n (settled goal kept new) → HoldsUnder L more place specs n env goal
    settled_holds h = by_existentials new.existentials refl h
