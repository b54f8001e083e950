-- The goal from a source that a row has written is well formed.
use Rattle.std.proofs.Common.{◌≡◌, ℕ, true, false, cond, List, [], ◌∷◌, ◌++◌, Some, refl, ◌∙◌, ap, subst, true≢false, sym}
use Rattle.std.specs.Prelude.{bytes_eq, if◌then◌else◌, is_some}
use Rattle.std.specs.List.{AllByRecursion}
use Rattle.std.specs.Map.{lookup}
use Rattle.std.proofs.lemmas.Bool.{or_parts}
use Rattle.floyd_tree_sorts.specs.declared.sorts.Sort.{Val}
use Rattle.floyd_tree.specs.Formulas.{PlainFormula}
use Rattle.floyd_tree_values.specs.Rules.{Scope}
use Rattle.floyd_truth.proofs.Fresh.{not_true}
use Rattle.floyd_assert_trees.specs.declared.assertion.Assertion.{Assertion}
use Rattle.floyd_assert_trees.specs.declared.assertion.Local.{Local}
use Rattle.floyd_assert_trees.specs.declared.binder.Binder.{Binder}
use Rattle.floyd_assert_trees.specs.declared.items.Defs.{Defs}
use Rattle.floyd_assert_trees.specs.declared.sep.Sep.{Sep}
use Rattle.floyd_assert_trees.specs.declared.spec.SpecTable.{SpecTable}
use Rattle.floyd_assert_changes.specs.Changed.{has_name}
use Rattle.floyd_goal.specs.Goals.{enriched, some_left}
use Rattle.floyd_goal_trees.specs.Contexts.{context_of, scope_of}
use Rattle.floyd_goal_trees.specs.declared.goal.Goal.{Goal}
use Rattle.floyd_goal_forms.specs.Assertions.{AssertionFits, PartsFit, PredicatesOf}
use Rattle.floyd_goal_forms.specs.Goals.{IsWellFormed}
use Rattle.floyd_goal_forms.specs.Terms.{FormulaFits, FormulasFit, TermFits, scope_with}
use Rattle.floyd_goal_parts.specs.Sources.{from_source}
use Rattle.floyd_goal_scopes.proofs.Terms.{is_name}
use Rattle.floyd_entail_predicates.specs.Settling.{settled, without_props}
use Rattle.floyd_formed_places.proofs.Putting.{source_formed}
use Rattle.floyd_formed_pure.proofs.Contexts.{AreIn, both_all, context_formed, enriched_formed}
use Rattle.floyd_formed_quantifiers.proofs.Growing.{each_grows, fits_grow, parts_grow, props_grow}

module _ (defs : Defs) (specs : SpecTable) (goal : Goal) (formed : IsWellFormed defs specs goal) where
  abbrev scope : Scope
  scope = scope_of (context_of goal)

  -- with hypotheses more, from another source
  pub from_formed : (kept : List PlainFormula) (new : Assertion) → FormulasFit defs specs (scope_of (context_of goal)) kept → AssertionFits defs specs (scope_of (context_of goal)) new → IsWellFormed defs specs (from_source goal (enriched (context_of goal) kept) new)
  from_formed kept new k h =
      source_formed defs specs goal (enriched (context_of goal) kept) new refl formed
      (enriched_formed defs specs goal (from_source goal (enriched (context_of goal) kept) new) (context_of goal) kept (context_formed defs specs goal formed) k) h

  pub settled_formed : (kept : List PlainFormula) (new : Assertion) → FormulasFit defs specs (scope_of (context_of goal)) kept → AssertionFits defs specs (scope_of (context_of goal)) new → IsWellFormed defs specs (settled goal kept new)
  settled_formed kept new k h = by new.existentials refl
    where
      by : (bs : List Binder) → new.existentials ≡ bs → IsWellFormed defs specs (if some_left bs then from_source goal (enriched (context_of goal) kept) new else from_source goal (enriched (context_of goal) (kept ++ new.props)) (without_props new))
      by (b ∷ bs) e = from_formed kept new k h
      by [] e =
          let props = subst (λ bs. FormulasFit defs specs (scope_with bs ++ scope) new.props) e h.props in
          from_formed (kept ++ new.props) (without_props new) (both_all (FormulaFits defs specs scope) kept new.props k props)
          (record { existentials = h.existentials; props = tt; temporaries = h.temporaries; locals = h.locals; parts = h.parts })

-- ---- below existentials whose names no variable has

behind : (bs : List Binder) (others : Scope) (v : List ℕ) → has_name v bs ≡ false → lookup (bytes_eq v) (scope_with bs ++ others) ≡ lookup (bytes_eq v) others
behind [] others v e = refl
behind (b ∷ bs) others v e =
    let p = or_parts (bytes_eq v b.name) (has_name v bs) e in
    ap (λ t. cond t (Some b.sort) (lookup (bytes_eq v) (scope_with bs ++ others))) p.0 ∙ behind bs others v p.1

pub below_in : (vars bs : List Binder) → ((v : List ℕ) → has_name v bs ≡ true → has_name v vars ≡ false) → AreIn (scope_with vars) (scope_with bs ++ scope_with vars)
below_in vars bs free v s e =
    behind bs (scope_with vars) v (not_true (has_name v bs) (λ q. true≢false (sym (is_name v vars (ap is_some e)) ∙ free v q))) ∙ e

module _ (defs : Defs) (specs : SpecTable) (vars : List Binder) where
  -- A source with an assertion that stands over all of it: its formulas behind those of the source, and these parts, which
  -- are well formed among the variables or below the assertion's existentials.
  pub over_formed : (source other : Assertion) (parts : List Sep) → source.existentials ≡ [] → AssertionFits defs specs (scope_with vars) source → AssertionFits defs specs (scope_with vars) other → ((v : List ℕ) → has_name v other.existentials ≡ true → has_name v vars ≡ false) →
      PartsFit defs (scope_with other.existentials ++ scope_with vars) (PredicatesOf defs (scope_with other.existentials ++ scope_with vars)) parts →
      AssertionFits defs specs (scope_with vars) (record { existentials = other.existentials; props = source.props ++ other.props; locals = source.locals; parts = parts })
  over_formed source other parts none h k free fits =
      let small = scope_with vars in
      let large = scope_with other.existentials ++ small in
      let more = below_in vars other.existentials free in
      let props = subst (λ bs. FormulasFit defs specs (scope_with bs ++ small) source.props) none h.props in
      let locals = subst (λ bs. AllByRecursion (λ (l : Local). TermFits defs (scope_with bs ++ small) Val l.term) source.locals) none h.locals in
      record {
        existentials = k.existentials;
        props = both_all (FormulaFits defs specs large) source.props other.props (props_grow defs small large more specs source.props props) k.props;
        temporaries = h.temporaries;
        locals = each_grows (λ (l : Local). TermFits defs small Val l.term) (λ (l : Local). TermFits defs large Val l.term) (λ l. fits_grow defs small large more Val l.term) source.locals locals;
        parts = fits;
      }

  pub parts_below : (bs : List Binder) (parts : List Sep) → ((v : List ℕ) → has_name v bs ≡ true → has_name v vars ≡ false) → PartsFit defs (scope_with vars) (PredicatesOf defs (scope_with vars)) parts → PartsFit defs (scope_with bs ++ scope_with vars) (PredicatesOf defs (scope_with bs ++ scope_with vars)) parts
  parts_below bs parts free h = parts_grow defs (scope_with vars) (scope_with bs ++ scope_with vars) (below_in vars bs free) parts h
