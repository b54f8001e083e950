-- What is free in a well-formed goal is a variable of its context.
use Rattle.std.proofs.Common.{◌≡◌, ⊎_elim, ℕ, true, ◌||◌, List, [], ◌∷◌, sym, ap, ◌∙◌, true≢false}
use Rattle.std.specs.Prelude.{bytes_eq, is_some}
use Rattle.std.specs.List.{AllByRecursion, list_any}
use Rattle.std.specs.Map.{lookup}
use Rattle.std.proofs.lemmas.Bool.{false_from_ne_true, or_cases, or_left, or_right}
use Rattle.std.proofs.lemmas.Slice.Eq.{bytes_eq-Decides}
use Rattle.floyd_tree_sorts.specs.declared.sorts.Sort.{Sort}
use Rattle.floyd_tree.specs.Formulas.{formulas, formulas_mention}
use Rattle.floyd_tree_values.specs.Rules.{Scope}
use Rattle.floyd_assert_trees.specs.declared.items.Defs.{Defs}
use Rattle.floyd_assert_trees.specs.declared.spec.SpecTable.{SpecTable}
use Rattle.floyd_assert_trees.specs.Meanings.{value_defs}
use Rattle.floyd_assert_laws.specs.Free.{assertion_mentions, post_mentions}
use Rattle.floyd_goal_forms.specs.Goals.{ContextFits, ExitFits, ExitsFit, IsVariableOf, IsWellFormed, MarkFits}
use Rattle.floyd_goal_meaning.specs.GoalHolds.{postcondition}
use Rattle.floyd_goal_names.specs.Free.{context_mentions, exit_mentions, exits_mention, goal_mentions, mark_mentions}
use Rattle.floyd_goal_trees.specs.Contexts.{context_of, scope_of}
use Rattle.floyd_goal_trees.specs.declared.context.Context.{Context}
use Rattle.floyd_goal_trees.specs.declared.context.Mark.{Mark}
use Rattle.floyd_goal_trees.specs.declared.context.Mark.TheVariants as m
use Rattle.floyd_goal_trees.specs.declared.exits.Exit as e
use Rattle.floyd_goal_trees.specs.declared.exits.Exit.TheVariants as x
use Rattle.floyd_goal_trees.specs.declared.exits.Exits as g
use Rattle.floyd_goal_trees.specs.declared.goal.Goal.{Goal}
use Rattle.floyd_goal_trees.specs.declared.goal.Goal.TheVariants.{Run, Entail, Pure}
use Rattle.floyd_goal_scopes.specs.Laws.{FreeNamesAreVariables, OtherNamesAreNew}
use Rattle.floyd_goal_scopes.proofs.Parts.{assertion_known, return_known}
use Rattle.floyd_goal_scopes.proofs.Terms.{Known, formula_known, is_name, props_known}

module _ (v : List ℕ) (defs : Defs) (specs : SpecTable) where
  name_known : (context : Context) (s : Sort) (names : List (List ℕ)) → AllByRecursion (IsVariableOf context s) names → list_any (bytes_eq v) names ≡ true → Known (scope_of context) v
  name_known context s [] h k = absurd cc
  name_known context s (y ∷ names) h k = ⊎_elim
      (λ i. ap (λ z. is_some (lookup (bytes_eq z) (scope_of context))) ((bytes_eq-Decides v y).0 i) ∙ ap is_some h.0)
      (name_known context s names h.1)
      (or_cases (bytes_eq v y) (list_any (bytes_eq v) names) k)

  mark_known : (goal : Goal) (context : Context) (mark : Mark) → MarkFits defs goal context mark → mark_mentions mark v ≡ true → Known (scope_of context) v
  mark_known goal context m.Plain h k = absurd cc
  mark_known goal context (m.Start name) h k = absurd cc
  mark_known goal context (m.Induction name place names) h k = name_known context h.variable.sort names h.smaller k

  context_known : (goal : Goal) (context : Context) → ContextFits defs specs goal context → context_mentions context v ≡ true → Known (scope_of context) v
  context_known goal context h k = ⊎_elim
      (props_known v defs (scope_of context) specs context.hypotheses h.hypotheses)
      (mark_known goal context context.mark h.mark)
      (or_cases (formulas_mention v (formulas context.hypotheses)) (mark_mentions context.mark v) k)

  exit_known : (scope : Scope) (exit : e.Exit) → ExitFits defs specs scope exit → exit_mentions exit v ≡ true → Known scope v
  exit_known scope x.None h k = absurd cc
  exit_known scope (x.To a) h k = assertion_known v defs specs scope a h k
  exit_known scope x.End h k = absurd cc

  exits_known : (scope : Scope) (a : g.Exits) → ExitsFit defs specs scope a → exits_mention a v ≡ true → Known scope v
  exits_known scope a h k =
      let post = post_mentions (postcondition a.ret) v in
      ⊎_elim (exit_known scope a.normal h.normal)
      (λ i. ⊎_elim (exit_known scope a.brk h.brk)
      (λ j. ⊎_elim (exit_known scope a.cont h.cont) (return_known v defs specs scope a.ret h.ret) (or_cases (exit_mentions a.cont v) post j))
      (or_cases (exit_mentions a.brk v) (exit_mentions a.cont v || post) i))
      (or_cases (exit_mentions a.normal v) (exit_mentions a.brk v || (exit_mentions a.cont v || post)) k)

  in_context : (goal : Goal) → IsWellFormed defs specs goal → context_mentions (context_of goal) v ≡ true → Known (scope_of (context_of goal)) v
  in_context (Run a) h k = context_known (Run a) a.context h.context k
  in_context (Entail a) h k = context_known (Entail a) a.context h.context k
  in_context (Pure a) h k = context_known (Pure a) a.context h.context k

  in_goal : (goal : Goal) → IsWellFormed defs specs goal → goal_mentions goal v ≡ true → Known (scope_of (context_of goal)) v
  in_goal (Run a) h k = ⊎_elim
      (assertion_known v defs specs (scope_of a.context) a.source h.source)
      (exits_known (scope_of a.context) a.exits h.exits)
      (or_cases (assertion_mentions a.source v) (exits_mention a.exits v) k)
  in_goal (Entail a) h k = ⊎_elim
      (assertion_known v defs specs (scope_of a.context) a.source h.source)
      (assertion_known v defs specs (scope_of a.context) a.target h.target)
      (or_cases (assertion_mentions a.source v) (assertion_mentions a.target v) k)
  in_goal (Pure a) h k = formula_known v (value_defs defs) (scope_of a.context) a.target h.target.fits.allowed k

pub free_names : FreeNamesAreVariables
free_names defs specs goal v h k =
    is_name v (context_of goal).variables
    (⊎_elim (in_context v defs specs goal h) (in_goal v defs specs goal h) (or_cases (context_mentions (context_of goal) v) (goal_mentions goal v) k))

pub other_names : OtherNamesAreNew
other_names defs specs goal names h distinct apart = record {
  distinct = distinct;
  variables = apart;
  in_context = λ v k. false_from_ne_true (context_mentions (context_of goal) v) (λ i. true≢false (sym (free_names defs specs goal v h (or_left (context_mentions (context_of goal) v) (goal_mentions goal v) i)) ∙ apart v k));
  in_goal = λ v k. false_from_ne_true (goal_mentions goal v) (λ i. true≢false (sym (free_names defs specs goal v h (or_right (context_mentions (context_of goal) v) (goal_mentions goal v) i)) ∙ apart v k));
}
