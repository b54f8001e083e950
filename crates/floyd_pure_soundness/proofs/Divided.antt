-- A goal of any kind holds where it does in each of some cases, which are all.
use Rattle.std.proofs.Common.{◌≡◌, inl, inr, ⊎_elim, ℕ, false, List, [], ◌∷◌, map, All, sym, subst, true≢false}
use Rattle.std.specs.Prelude.{bytes_eq}
use Rattle.std.specs.List.{AllByRecursion}
use Rattle.std.proofs.lemmas.Bool.{or_cases}
use Rattle.std.proofs.lemmas.List.Elements.{All-cons, All-nil}
use Rattle.std.proofs.lemmas.Slice.Eq.{bytes_eq-Decides}
use Rattle.floyd_tree.specs.Formulas.{PlainFormula}
use Rattle.floyd_tree_values.specs.BuiltIns.{Env}
use Rattle.floyd_tree_values.specs.Rules.{Scope}
use Rattle.floyd_assert_trees.specs.declared.binder.Binder.{Binder}
use Rattle.floyd_assert_trees.specs.declared.items.Defs.{Defs}
use Rattle.floyd_assert_trees.specs.declared.spec.SpecTable.{SpecTable}
use Rattle.floyd_assert_trees.specs.Meanings.{value_defs}
use Rattle.floyd_assert_changes.specs.Changed.{has_name}
use Rattle.floyd_assert_meaning.specs.Settings.{Setting}
use Rattle.floyd_goal.specs.Goals.{enriched, intros_first, is_pending}
use Rattle.floyd_goal_forms.specs.Goals.{IsWellFormed}
use Rattle.floyd_goal_forms.specs.Terms.{FormulasFit}
use Rattle.floyd_goal_formulas.specs.Fits.{Fits}
use Rattle.floyd_goal_truth.specs.Scopes.{AllFit}
use Rattle.floyd_goal_trees.specs.Contexts.{context_of}
use Rattle.floyd_goal_trees.specs.declared.goal.Goal.{Goal}
use Rattle.floyd_goal_trees.specs.declared.goal.Goal.TheVariants as g
use Rattle.floyd_goal_meaning.specs.declared.linked.Linked.{Linked}
use Rattle.floyd_goal_meaning.specs.GoalHolds.{Given, HoldsFor, HoldsUnder, LemmasAreTrue}
use Rattle.floyd_goal_meaning.specs.Links.{Has, AreApart}
use Rattle.floyd_goal_meaning.specs.Programs.{Further, Places, setting}
use Rattle.floyd_goal_laws.proofs.Givens.{given_more, other_context}
use Rattle.floyd_goal_names.specs.Free.{AreNew}
use Rattle.floyd_goal_names.proofs.NewNames.{with_new_names}
use Rattle.floyd_goal_scopes.proofs.Goals.{other_names}
use Rattle.floyd_pure_formulas.specs.HypothesisCases.{Case, Known, Opened, HypothesisCases, in_case}
use Rattle.floyd_pure_formulas.specs.Splits.{AllNew, SomeIsSo}
use Rattle.floyd_pure_formulas.proofs.CasesTrue.{hypothesis_splitting}
use Rattle.floyd_pure_formulas.proofs.Rowing.{passed}
use Rattle.floyd_pure_soundness.specs.Rows.{HypothesisCasesRow, IsSoundOnWellFormed}
use Rattle.floyd_pure_soundness.proofs.Arguments.{hypotheses_stay}

-- the hypotheses of a goal that is well formed
module _ (defs : Defs) (specs : SpecTable) where
  all_fit : (scope : Scope) (fs : List PlainFormula) → FormulasFit defs specs scope fs → All (Fits (value_defs defs) scope) fs
  all_fit scope [] h = All-nil (Fits (value_defs defs) scope)
  all_fit scope (f ∷ fs) h = All-cons (Fits (value_defs defs) scope) f fs h.0.fits (all_fit scope fs h.1)

  pub formed_hypotheses : (goal : Goal) → IsWellFormed defs specs goal → AllFit (value_defs defs) (context_of goal) (context_of goal).hypotheses
  formed_hypotheses (g.Run run) h = all_fit _ run.context.hypotheses h.context.hypotheses
  formed_hypotheses (g.Entail entail) h = all_fit _ entail.context.hypotheses h.context.hypotheses
  formed_hypotheses (g.Pure pure) h = all_fit _ pure.context.hypotheses h.context.hypotheses

module _ (L : Linked) (more : List Further) (place : Places) (defs : Defs) (specs : SpecTable) (n : ℕ) (has : Has L defs specs) (apart : AreApart L more place) (lemmas : LemmasAreTrue (setting L more place) defs) (goal : Goal) (formed : IsWellFormed defs specs goal) (env : Env) (given : Given (setting L more place) defs (context_of goal) env) where
  abbrev S : Setting
  S = setting L more place

  one_new : (b : Binder) → has_name b.name (context_of goal).variables ≡ false → AreNew (b ∷ []) goal
  one_new b e = other_names defs specs goal (b ∷ []) formed ((λ h. h), tt) (λ v k. ⊎_elim
      (λ i. subst (λ y. has_name y (context_of goal).variables ≡ false) (sym ((bytes_eq-Decides v b.name).0 i)) e)
      (λ i. absurd (true≢false (sym i)))
      (or_cases (bytes_eq v b.name) false k))

  in_one : (cases : List Case) → AllNew goal cases → AllByRecursion (HoldsFor defs specs n) (map (in_case goal) cases) → SomeIsSo S.defs S.has_spec env cases → HoldsUnder L more place specs n env goal
  in_one [] new h s = absurd s
  in_one (Known fs ∷ cases) new h (inl t) =
      other_context L more place defs specs n goal (enriched (context_of goal) fs) env (h.0.in_each L more place has apart lemmas) (given_more S defs env (context_of goal) fs given t)
  in_one (Known fs ∷ cases) new h (inr t) = in_one cases new h.1 t
  in_one (Opened b f ∷ cases) new h (inl t) =
      with_new_names L more place defs specs n goal (b ∷ []) (f ∷ []) env (one_new b new.0) given
      (record { data' = t.0 ∷ []; sorted = (t.1, tt); hold = (t.2, tt) })
      (h.0.in_each L more place has apart lemmas)
  in_one (Opened b f ∷ cases) new h (inr t) = in_one cases new.1 h.1 t

pub hypothesis_row : IsSoundOnWellFormed HypothesisCasesRow
hypothesis_row defs specs n goal args goals formed args_fit row h = record {
  in_each = λ L more place has apart lemmas env given.
      let S = setting L more place in
      let fit = hypotheses_stay L defs specs has (context_of goal) (formed_hypotheses defs specs goal formed) in
      let s = hypothesis_splitting S.defs S.has_spec goal args goals fit (passed (is_pending goal) intros_first (HypothesisCases goal args) goals row) in
      in_one L more place defs specs n has apart lemmas goal formed env given s.cases s.new (subst (AllByRecursion (HoldsFor defs specs n)) s.made h) (s.hold env given.suits given.hypotheses);
}
