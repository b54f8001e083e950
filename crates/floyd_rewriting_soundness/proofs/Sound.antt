-- A goal of any kind holds where the rewritten one does.
use Rattle.std.proofs.Common.{◌≡◌, ◌↔◌, inl, inr, ℕ, true, List, Some, Ok, sym, subst}
use Rattle.std.specs.List.{AllByRecursion}
use Rattle.floyd_int.specs.declared.kinds.Value.{Value}
use Rattle.floyd_tree_sorts.specs.declared.sorts.Sort.{Sort}
use Rattle.floyd_tree.specs.Made.{fits}
use Rattle.floyd_tree.specs.Plain.{Plain}
use Rattle.floyd_tree.specs.WellSorted.{sort_of}
use Rattle.floyd_tree_values.specs.BuiltIns.{Env}
use Rattle.floyd_tree_values.specs.Data.{Datum}
use Rattle.floyd_tree_values.specs.Means.{Means}
use Rattle.floyd_clight_heap.specs.Heaplet.{Heaplet}
use Rattle.floyd_assert_laws.specs.InChanged.{IsSorted}
use Rattle.floyd_assert_meaning.specs.Assertions.{Holds}
use Rattle.floyd_assert_meaning.specs.Settings.{Setting}
use Rattle.floyd_assert_trees.specs.declared.assertion.Assertion.{Assertion}
use Rattle.floyd_assert_trees.specs.declared.items.Defs.{Defs}
use Rattle.floyd_assert_trees.specs.declared.spec.SpecTable.{SpecTable}
use Rattle.floyd_goal_forms.specs.Goals.{IsWellFormed}
use Rattle.floyd_goal_meaning.specs.declared.linked.Linked.{Linked}
use Rattle.floyd_goal_meaning.specs.GoalHolds.{Given, HoldsFor, HoldsUnder, LemmasAreTrue}
use Rattle.floyd_goal_meaning.specs.Links.{AreApart, Has}
use Rattle.floyd_goal_meaning.specs.Programs.{Further, Places, setting}
use Rattle.floyd_goal_trees.specs.Contexts.{context_of, scope_of}
use Rattle.floyd_goal_trees.specs.declared.goal.Goal.{Goal}
use Rattle.floyd_goal_trees.specs.declared.goal.Goal.TheVariants as g
use Rattle.floyd_pure_soundness.proofs.Arguments.{hypotheses_stay}
use Rattle.floyd_pure_soundness.proofs.Divided.{formed_hypotheses}
use Rattle.floyd_rewriting.specs.Rewritten.{assertion_rewritten, formula_rewritten}
use Rattle.floyd_pure_rewriting.specs.Rewrite.{RewriteRow, by_sides}
use Rattle.floyd_pure_rewriting.proofs.PartsChanged.{Becomes, entail_made, pure_made, run_made}
use Rattle.floyd_pure_rewriting.proofs.Keeping.{rewriting_true}
use Rattle.floyd_pure_rewriting.proofs.Rewriting.{gone}
use Rattle.floyd_rewriting_laws.proofs.AssertionsKept.{assertion_kept}
use Rattle.floyd_rewriting_soundness.specs.Small.{IsSmall, IsSmallGoal, IsSoundOnSmall}
use Rattle.floyd_rewriting_soundness.proofs.Formed.{formed_sorted}
use Rattle.floyd_rewriting_soundness.proofs.Replaced.{entail_from, pure_from, run_from}

module _ (S : Setting) (env : Env) (from to : Plain) (s : Sort) (d : Datum) (sorted : sort_of from ≡ Some s) (to_sorted : sort_of to ≡ Some s) (small : fits from ≡ true) (to_small : fits to ≡ true) (means : Means S.defs env from d) (to_means : Means S.defs env to d) where
  -- what stands in the place of an assertion holds exactly where it does
  becomes_alike : (a b : Assertion) → IsSorted a → IsSmall a → Becomes a (assertion_rewritten from to a) b → (temps : List ℕ → Value) (h : Heaplet) → Holds S env b temps h ↔ Holds S env a temps h
  becomes_alike a b well few (inl e) temps h = assertion_kept S env from to s d a b temps h sorted to_sorted small to_small means to_means well few e
  becomes_alike a b well few (inr e) temps h = subst (λ c. Holds S env c temps h ↔ Holds S env a temps h) (sym e) (λ p. p, λ p. p)

module _ (L : Linked) (more : List Further) (place : Places) (defs : Defs) (specs : SpecTable) (n : ℕ) (has : Has L defs specs) (apart : AreApart L more place) (lemmas : LemmasAreTrue (setting L more place) defs) (env : Env) (goals : List Goal) (held : AllByRecursion (HoldsFor defs specs n) goals) (from to : Plain) (s : Sort) (d : Datum) (sorted : sort_of from ≡ Some s) (to_sorted : sort_of to ≡ Some s) (small : fits from ≡ true) (to_small : fits to ≡ true) (means : Means (setting L more place).defs env from d) (to_means : Means (setting L more place).defs env to d) where
  rewritten_under : (goal : Goal) → IsWellFormed defs specs goal → IsSmallGoal goal → Given (setting L more place) defs (context_of goal) env → Ok goals ≡ by_sides from to goal → HoldsUnder L more place specs n env goal
  rewritten_under (g.Run run) formed few given row =
      let m = run_made run (assertion_rewritten from to run.source) goals row in
      let one = subst (AllByRecursion (HoldsFor defs specs n)) m.goals_are held in
      run_from L more place defs specs n has apart lemmas env run m.source given
      (λ temps h p. (becomes_alike (setting L more place) env from to s d sorted to_sorted small to_small means to_means run.source m.source (formed_sorted defs specs (scope_of run.context) run.source formed.source) few.0 (inl m.is) temps h).1 p)
      one.0
  rewritten_under (g.Entail entail) formed few given row =
      let m = entail_made entail (assertion_rewritten from to entail.source) (assertion_rewritten from to entail.target) goals row in
      let one = subst (AllByRecursion (HoldsFor defs specs n)) m.goals_are held in
      entail_from L more place defs specs n has apart lemmas env entail m.source m.target given
      (λ temps h p. (becomes_alike (setting L more place) env from to s d sorted to_sorted small to_small means to_means entail.source m.source (formed_sorted defs specs (scope_of entail.context) entail.source formed.source) few.0 m.source_is temps h).1 p)
      (λ temps h p. (becomes_alike (setting L more place) env from to s d sorted to_sorted small to_small means to_means entail.target m.target (formed_sorted defs specs (scope_of entail.context) entail.target formed.target) few.1 m.target_is temps h).0 p)
      one.0
  rewritten_under (g.Pure pure) formed few given row =
      let m = pure_made pure (formula_rewritten from to pure.target) goals row in
      let one = subst (AllByRecursion (HoldsFor defs specs n)) m.goals_are held in
      pure_from L more place defs specs n has apart lemmas env pure m.target given
      (λ p. (rewriting_true (setting L more place).defs (setting L more place).has_spec env from to s d pure.target m.target sorted to_sorted small to_small means to_means formed.target.fits.sorted m.is).0 p)
      one.0

pub rewrite_sound : IsSoundOnSmall RewriteRow
rewrite_sound defs specs n goal args goals formed few args_fit row held = record {
  in_each = λ L more place has apart lemmas env given.
      let S = setting L more place in
      let o = gone S.defs goal args goals (hypotheses_stay L defs specs has (context_of goal) (formed_hypotheses defs specs goal formed)) row in
      let v = o.values S.has_spec env given.hypotheses in
      rewritten_under L more place defs specs n has apart lemmas env goals held o.from o.to o.sort v.0 o.from_sorted o.to_sorted o.from_small o.to_small v.1 v.2 goal formed few given o.row;
}
