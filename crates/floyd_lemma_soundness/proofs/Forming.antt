-- The sides of a lemma at terms are well formed.
use Rattle.std.proofs.Common.{◌≡◌, ℕ, ◌+◌, ◌<◌, ◌≤◌, ◌^◌, Bool, true, false, not, ◌&&◌, List, [], ◌∷◌, ◌++◌, length, Ok, refl, sym, ◌∙◌, ap, subst, arith, append-nil, eqb-true}
use Rattle.std.specs.Prelude.{◌==◌}
use Rattle.std.proofs.lemmas.Bool.{and_parts}
use Rattle.floyd_tree.specs.Plain.{Plain, plains, sizes}
use Rattle.floyd_tree_values.specs.Rules.{Scope}
use Rattle.floyd_truth.specs.Laws.{nodes}
use Rattle.floyd_truth.specs.Replace.{puts}
use Rattle.floyd_assert_trees.specs.declared.assertion.Assertion.{Assertion}
use Rattle.floyd_assert_trees.specs.declared.binder.Binder.{Binder}
use Rattle.floyd_assert_trees.specs.declared.items.Defs.{Defs}
use Rattle.floyd_assert_trees.specs.declared.items.Lemma.{Lemma}
use Rattle.floyd_assert_trees.specs.declared.spec.SpecTable.{SpecTable}
use Rattle.floyd_assert_changes.specs.Apart.{apart, apart_from, set_apart}
use Rattle.floyd_assert_changes.specs.Changed.{assertion_after, assertion_fits, assertion_with, has_name, renamed_from}
use Rattle.floyd_assert_instances.specs.Instances.{have_sorts, pairs, taken}
use Rattle.floyd_assert_laws.specs.InChanged.{body_nodes}
use Rattle.floyd_goal.specs.Goals.{wrong_goal}
use Rattle.floyd_goal_forms.specs.Assertions.{AssertionFits}
use Rattle.floyd_goal_forms.specs.Items.{LemmaFits, sorts_with}
use Rattle.floyd_goal_forms.specs.Terms.{FormulasFit, TermsFit, scope_with}
use Rattle.floyd_goal_trees.specs.Contexts.{context_of}
use Rattle.floyd_goal_trees.specs.declared.goal.Goal.{Goal}
use Rattle.floyd_formed_renaming.proofs.Assertions.{assertion_formed}
use Rattle.floyd_funspec_laws.proofs.Made.{goes, taken_is}
use Rattle.floyd_entail_lemmas.specs.Apply.{Applies, AppliesAt, AppliesLeft, AppliesLemma, AppliesWith, is_beyond, is_plain, right_at}
use Rattle.floyd_entail_soundness.proofs.Putting.{made_is}
use Rattle.floyd_entail_soundness.proofs.Sources.{of_result}
use Rattle.floyd_entail_soundness.proofs.Validating.{passed}
use Rattle.floyd_clause_forms.specs.Laws.{AreGiven}
use Rattle.floyd_clause_forms.proofs.Folding.{pairs_few}
use Rattle.floyd_clause_forms.proofs.Leading.{LeadAll, counted, given_fit, lead_none, lead_pairs, none_called, weight_puts}
use Rattle.floyd_lemma_soundness.specs.Rows.{HasFewNodes}

-- ---- its sides

abbrev pub left_of : Lemma → List (List ℕ × Plain) → Assertion
left_of l by = assertion_after (puts by) l.left

abbrev pub whole_right : Lemma → List (List ℕ × Plain) → Assertion
whole_right l by = assertion_after (puts by) l.right

-- with its existentials set apart from variables
abbrev pub right_of : List Binder → Lemma → List (List ℕ × Plain) → Assertion
right_of vars l by = apart (λ x. has_name x vars) (whole_right l by)

right_for : (vars : List Binder) (l : Lemma) (by : List (List ℕ × Plain)) (whole made : Assertion) → whole_right l by ≡ whole → apart (λ x. has_name x vars) whole ≡ made → right_of vars l by ≡ made
right_for vars l by whole made e i = ap (apart (λ x. has_name x vars)) e ∙ i

-- what the command has found
pub record Applied (goal : Goal) (l : Lemma) (terms : List Plain) (goals : List Goal) : Type 0 where
  pub by : List (List ℕ × Plain)
  pub taken_by : taken l.with terms ≡ Ok by
  pub in_reach : is_beyond goal l ≡ false
  pub applies : Applies goal (left_of l by) (right_of (context_of goal).variables l by) (Ok goals)

pub applied : (goal : Goal) (l : Lemma) (terms : List Plain) (goals : List Goal) → AppliesLemma goal terms l (Ok goals) → Applied goal l terms goals
applied goal l terms goals row =
    let vars = (context_of goal).variables in
    let b = of_result (taken l.with terms) (AppliesWith goal l) goals row in
    let w = passed (is_beyond goal l) wrong_goal (AppliesAt goal l b.0) goals b.2 in
    let a = of_result (assertion_with b.0 l.left) (AppliesLeft goal l b.0) goals w.1 in
    let r = of_result (right_at goal l b.0) (Applies goal a.0) goals a.2 in
    let o = goes (assertion_with b.0 l.right) (set_apart (λ x. has_name x vars)) r.0 r.1 in
    let left : left_of l b.0 ≡ a.0 = made_is assertion_fits (left_of l b.0) a.0 a.1 in
    let whole : whole_right l b.0 ≡ o.value = made_is assertion_fits (whole_right l b.0) o.value o.first in
    let right : apart (λ x. has_name x vars) o.value ≡ r.0 = made_is assertion_fits (apart (λ x. has_name x vars) o.value) r.0 o.then' in
    let right_is : right_of vars l b.0 ≡ r.0 = right_for vars l b.0 o.value r.0 whole right in
    record {
      by = b.0;
      taken_by = b.1;
      in_reach = w.0;
      applies = subst (λ x. Applies goal x (right_of vars l b.0) (Ok goals)) (sym left) (subst (λ x. Applies goal a.0 x (Ok goals)) (sym right_is) r.2);
    }

module _ (defs : Defs) (specs : SpecTable) (scope : Scope) (l : Lemma) (fits : LemmaFits defs specs l) (terms : List Plain) (given : AreGiven defs scope terms) (others : ℕ) (few : HasFewNodes l terms others) (by : List (List ℕ × Plain)) (taken_by : taken l.with terms ≡ Ok by) where
  pub sorts_are : have_sorts l.with terms ≡ true
  sorts_are = (taken_is l.with terms by taken_by).sorts

  pub by_is : by ≡ pairs l.with terms
  by_is = (taken_is l.with terms by taken_by).is

  pub terms_fit : TermsFit defs scope (sorts_with l.with) terms
  terms_fit = given_fit defs scope l.with terms (counted l.with terms by taken_by) sorts_are given

  pub by_few : nodes by ≤ sizes (plains terms)
  by_few = subst (λ all. nodes all ≤ sizes (plains terms)) (sym by_is) (pairs_few l.with terms)

  leads : LeadAll defs scope by (scope_with l.with)
  leads =
      subst (λ all. LeadAll defs scope all (scope_with l.with)) (sym by_is)
      (subst (LeadAll defs scope (pairs l.with terms)) (append-nil (scope_with l.with)) (lead_pairs defs scope l.with terms [] terms_fit (lead_none defs scope)))

  pub left_formed : AssertionFits defs specs scope (left_of l by)
  left_formed = assertion_formed defs specs (puts by) (scope_with l.with) scope l.left (omega (arith, few.left, by_few, weight_puts by)) leads (none_called by) fits.left

  pub whole_formed : AssertionFits defs specs scope (whole_right l by)
  whole_formed = assertion_formed defs specs (puts by) (scope_with l.with) scope l.right (omega (arith, few.right, by_few, weight_puts by)) leads (none_called by) fits.right

  pub whole_few : others + body_nodes (whole_right l by) < 2 ^ 63
  whole_few = subst (λ all. others + body_nodes (whole_right l all) < 2 ^ 63) (sym by_is) few.made

  -- the left side has no existentials
  pub none_left : (left_of l by).existentials ≡ []
  none_left = ap (renamed_from (puts by) l.left []) fits.none

  pub left_props : FormulasFit defs specs scope (left_of l by).props
  left_props = subst (λ bs. FormulasFit defs specs (scope_with bs ++ scope) (left_of l by).props) none_left left_formed.props

-- ---- a lemma that speaks of formulas alone

empty_list : {A : Type 0} (xs : List A) → length xs ≡ 0 → xs ≡ []
empty_list [] e = refl
empty_list (x ∷ xs) e = absurd (omega (arith, e))

not_false : (b : Bool) → not b ≡ false → b ≡ true
not_false true e = refl
not_false false e = absurd cc

pub record IsPlain (a : Assertion) : Type 0 where
  pub existentials : a.existentials ≡ []
  pub parts : a.parts ≡ []

plain_is : (a : Assertion) → is_plain a ≡ true → IsPlain a
plain_is a e =
    let p = and_parts (length a.existentials == 0) (length a.parts == 0) e in
    record { existentials = empty_list a.existentials (eqb-true (length a.existentials) 0 p.0); parts = empty_list a.parts (eqb-true (length a.parts) 0 p.1) }

pub both_plain : (l : Lemma) → not (is_plain l.left && is_plain l.right) ≡ false → IsPlain l.left × IsPlain l.right
both_plain l e =
    let p = and_parts (is_plain l.left) (is_plain l.right) (not_false (is_plain l.left && is_plain l.right) e) in
    (plain_is l.left p.0, plain_is l.right p.1)

pub plain_right : (vars : List Binder) (l : Lemma) (by : List (List ℕ × Plain)) → IsPlain l.right → (right_of vars l by).existentials ≡ []
plain_right vars l by p = ap (apart_from (λ x. has_name x vars) (whole_right l by) []) (ap (renamed_from (puts by) l.right []) p.existentials)
