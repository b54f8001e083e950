-- A goal of any kind is well formed as what it is simplified to.
use Rattle.std.proofs.Common.{◌≡◌, inl, inr, Bool, true, false, cond, List, [], ◌∷◌, map, Option, Some, None, Result, Ok, Err, refl, sym, subst}
use Rattle.std.specs.List.{AllByRecursion}
use Rattle.floyd_text.specs.declared.refusal.No.{No}
use Rattle.floyd_tree.specs.Formulas.{PlainFormula, PlainFormulas, form_of}
use Rattle.floyd_tree.specs.Plain.{Plain, Plains}
use Rattle.floyd_tree_values.specs.Rules.{Scope}
use Rattle.floyd_assert_trees.specs.declared.assertion.Assertion.{Assertion}
use Rattle.floyd_assert_trees.specs.declared.items.Defs.{Defs}
use Rattle.floyd_assert_trees.specs.declared.spec.SpecTable.{SpecTable}
use Rattle.floyd_assert_changes.specs.Changed.{terms_in}
use Rattle.floyd_assert_terms.specs.Mapped.{body_mapped}
use Rattle.floyd_goal.specs.Goals.{intros_first, is_pending}
use Rattle.floyd_goal_forms.specs.Assertions.{AssertionFits, inner_scope}
use Rattle.floyd_goal_forms.specs.Goals.{IsWellFormed}
use Rattle.floyd_goal_trees.specs.Contexts.{scope_of}
use Rattle.floyd_goal_trees.specs.declared.goal.Goal.{Goal}
use Rattle.floyd_goal_trees.specs.declared.goal.Goal.TheVariants as g
use Rattle.floyd_goal_trees.specs.declared.goal.Pure.{Pure}
use Rattle.floyd_pure_formulas.specs.Rows.{Answer}
use Rattle.floyd_pure_formulas.proofs.Rowing.{goals_are, no_goals, passed}
use Rattle.floyd_pure_rewriting.specs.Changing.{no_occurrence}
use Rattle.floyd_pure_rewriting.proofs.PartsChanged.{Becomes, entail_made, pure_behind, run_made}
use Rattle.floyd_pure_simplifying.specs.Simpl.{SimplRow, is_truth, pure_simplified, simplified_goal}
use Rattle.floyd_simplifying.specs.Assertions.{assertion_simplified, formula_or, term_or, with_both}
use Rattle.floyd_simplifying.specs.Simplified.{formula_simplified}
use Rattle.floyd_formed_pure.specs.Rows.{AreWellFormed, KeepsForms}
use Rattle.floyd_formed_simplifying.proofs.Behind.{entail_formed, pure_formed, run_formed}
use Rattle.floyd_formed_simplifying.proofs.Formulas.{formula_formed, formulas_formed}
use Rattle.floyd_formed_simplifying.proofs.Mapped.{body_formed}
use Rattle.floyd_formed_simplifying.proofs.Terms.{term_formed}

made_by : (a : Assertion) (x : Result (Option PlainFormulas) No) (y : Result (Option Plains) No) (made : Assertion) → with_both a x y ≡ Ok (Some made) → body_mapped term_or (map formula_or a.props) a ≡ made
made_by a (Err refusal) y made e = absurd cc
made_by a (Ok None) (Err refusal) made e = absurd cc
made_by a (Ok (Some fs)) (Err refusal) made e = absurd cc
made_by a (Ok None) (Ok None) made e = absurd cc
made_by a (Ok None) (Ok (Some ts)) made e = cc
made_by a (Ok (Some fs)) (Ok ts) made e = cc

-- any term
abbrev Any : Plain → Type 0
Any t = Unit {0}

any_terms : (ts : List Plain) → AllByRecursion Any ts
any_terms [] = tt
any_terms (t ∷ ts) = (tt, any_terms ts)

module _ (defs : Defs) (specs : SpecTable) where
  assertion_formed : (scope : Scope) (a made : Assertion) → AssertionFits defs specs scope a → assertion_simplified a ≡ Ok (Some made) → AssertionFits defs specs scope made
  assertion_formed scope a made h e =
      let inner = inner_scope a scope in
      let is : body_mapped term_or (map formula_or a.props) a ≡ made = made_by a _ _ made e in
      subst (AssertionFits defs specs scope) is
      (body_formed defs specs scope scope a term_or (map formula_or a.props) Any (λ s t k f. term_formed defs inner s t f) (any_terms (terms_in a)) (formulas_formed defs specs inner a.props h.props) h)

  becomes_formed : (scope : Scope) (a b : Assertion) → AssertionFits defs specs scope a → Becomes a (assertion_simplified a) b → AssertionFits defs specs scope b
  becomes_formed scope a b h (inl e) = assertion_formed scope a b h e
  becomes_formed scope a b h (inr e) = subst (AssertionFits defs specs scope) (sym e) h

  module _ (pure : Pure) (formed : IsWellFormed defs specs (g.Pure pure)) (goals : List Goal) where
    from_made : (made : PlainFormula) (b : Bool) → formula_simplified pure.target ≡ Ok (Some made) → ◌≡◌ {A = Answer} (Ok goals) (cond b (Ok []) (Ok (pure_behind pure made ∷ []))) → AreWellFormed defs specs goals
    from_made made true i e = subst (AreWellFormed defs specs) (sym (goals_are goals [] e)) tt
    from_made made false i e =
        subst (AreWellFormed defs specs) (sym (goals_are goals (pure_behind pure made ∷ []) e)) (pure_formed defs specs pure made formed (formula_formed defs specs (scope_of pure.context) pure.target made formed.target i), tt)

    from_own : (b : Bool) → ◌≡◌ {A = Answer} (Ok goals) (cond b (Ok []) (Err no_occurrence)) → AreWellFormed defs specs goals
    from_own true e = subst (AreWellFormed defs specs) (sym (goals_are goals [] e)) tt
    from_own false e = absurd (no_goals goals no_occurrence e)

    pure_goals : (x : Result (Option PlainFormula) No) → formula_simplified pure.target ≡ x → Ok goals ≡ pure_simplified pure x → AreWellFormed defs specs goals
    pure_goals (Ok (Some made)) i e = from_made made (is_truth (form_of made)) i e
    pure_goals (Ok None) i e = from_own (is_truth (form_of pure.target)) e
    pure_goals (Err refusal) i e = absurd (no_goals goals refusal e)

pub simpl_forms : KeepsForms SimplRow
simpl_forms defs specs (g.Run run) args goals formed given row =
    let made = run_made run (assertion_simplified run.source) goals (passed (is_pending (g.Run run)) intros_first (λ answer. answer ≡ simplified_goal (g.Run run)) goals row) in
    subst (AreWellFormed defs specs) (sym made.goals_are) (run_formed defs specs run made.source formed (assertion_formed defs specs (scope_of run.context) run.source made.source formed.source made.is), tt)
simpl_forms defs specs (g.Entail entail) args goals formed given row =
    let scope = scope_of entail.context in
    let made = entail_made entail (assertion_simplified entail.source) (assertion_simplified entail.target) goals (passed (is_pending (g.Entail entail)) intros_first (λ answer. answer ≡ simplified_goal (g.Entail entail)) goals row) in
    subst (AreWellFormed defs specs) (sym made.goals_are) (
      entail_formed defs specs entail made.source made.target formed (becomes_formed defs specs scope entail.source made.source formed.source made.source_is) (becomes_formed defs specs scope entail.target made.target formed.target made.target_is),
      tt,
    )
simpl_forms defs specs (g.Pure pure) args goals formed given row =
    pure_goals defs specs pure formed goals (formula_simplified pure.target) refl (passed (is_pending (g.Pure pure)) intros_first (λ answer. answer ≡ simplified_goal (g.Pure pure)) goals row)
