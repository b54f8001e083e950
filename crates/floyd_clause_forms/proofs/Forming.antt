-- The clause of a predicate is well formed.
use Rattle.std.proofs.Common.{◌≡◌, ℕ, ◌+◌, ◌<◌, ◌^◌, Bool, true, false, List, [], ◌∷◌, ◌++◌, Option, Some, None, Ok, Err, refl, sym, ◌∙◌, subst, arith, append-nil}
use Rattle.std.specs.Prelude.{bytes_eq, if◌then◌else◌}
use Rattle.std.specs.Map.{lookup}
use Rattle.floyd_tree_sorts.specs.declared.sorts.Sort.{Sort, ListOf', TreeOf', more_of-Sort, end_of-Sort}
use Rattle.floyd_tree_sorts.specs.Sorts.{list_sort, tree_sort}
use Rattle.floyd_tree.specs.Plain.{Plain}
use Rattle.floyd_tree_values.specs.Rules.{Scope, pattern_scope}
use Rattle.floyd_tree_values.specs.Rules as rules
use Rattle.floyd_truth.specs.Laws.{nodes}
use Rattle.floyd_truth.specs.Replace.{puts}
use Rattle.floyd_assert_trees.specs.declared.assertion.Assertion.{Assertion}
use Rattle.floyd_assert_trees.specs.declared.binder.Binder.{Binder}
use Rattle.floyd_assert_trees.specs.declared.items.Defs.{Defs}
use Rattle.floyd_assert_trees.specs.declared.items.Pred.{Pred}
use Rattle.floyd_assert_trees.specs.declared.items.PredBody.{PredBody}
use Rattle.floyd_assert_trees.specs.declared.items.PredBody.TheVariants.{Whole, Cases}
use Rattle.floyd_assert_trees.specs.declared.items.PredCase.{PredCase}
use Rattle.floyd_assert_trees.specs.declared.spec.SpecTable.{SpecTable}
use Rattle.floyd_assert_trees.specs.Meanings.{pattern_of}
use Rattle.floyd_assert_changes.specs.Changed.{assertion_after, assertion_fits}
use Rattle.floyd_assert_instances.specs.Instances.{pairs, taken}
use Rattle.floyd_assert_laws.specs.InChanged.{body_nodes}
use Rattle.floyd_clauses.specs.Clauses.{Opening, case_for, clause_by, clause_in, clause_of, hidden, is_hidden, opened, opened_by, opened_case, opened_terms, with_terms}
use Rattle.floyd_goal_forms.specs.Assertions.{AssertionFits, PredicatesOf}
use Rattle.floyd_goal_forms.specs.Items.{BodyFits, CaseFits, CasesFit, FirstFits, PredBodyFits, PredsFit, sorts_with}
use Rattle.floyd_goal_forms.specs.Terms.{TermFits, TermsFit, scope_with}
use Rattle.floyd_clause_laws.proofs.Finding.{body_known, placed}
use Rattle.floyd_clause_laws.proofs.Opening.{found_in, the_case}
use Rattle.floyd_clause_laws.proofs.Sorting.{Parts, list_parts, scope_of, tree_parts}
use Rattle.floyd_formed_renaming.proofs.Assertions.{assertion_formed}
use Rattle.floyd_funspec_laws.proofs.Made.{goes, taken_is, within}
use Rattle.floyd_clause_forms.specs.Laws.{HasFewNodes}
use Rattle.floyd_clause_forms.proofs.Leading.{IsGood, LeadAll, entries_fitted, lead_entries, lead_none, lead_pairs, none_called, weight_puts}

module _ (defs : Defs) (specs : SpecTable) (before : List (List ℕ × Pred)) (name : List ℕ) (p : Pred) (by : List (List ℕ × Plain)) (new : Scope) (leads : LeadAll defs new by (scope_with p.arguments)) where
  -- a body that is well formed in a scope, from which its terms lead
  record Fitting (o : Opening) : Type 0 where
    pub scope : Scope
    pub parts : List (List ℕ)
    pub fits : BodyFits defs specs before name p parts scope o.1
    pub lead : LeadAll defs new o.0 scope

  case_fits : (s item : Sort) (t : Plain) (c : PredCase) → IsGood defs new t → Parts c.pattern t s item → CaseFits defs specs before name p s item c → (o : Opening) → (opened_terms c t by, c.body) ≡ o → Fitting o
  case_fits s item t c g q k o e =
      subst Fitting e
      (record {
        scope = pattern_scope (pattern_of c.pattern) s item ++ scope_with p.arguments;
        parts = rules.smaller (pattern_of c.pattern);
        fits = k.body;
        lead =
            subst (λ scope. LeadAll defs new (opened_terms c t by) (scope ++ scope_with p.arguments)) (sym q.scope_is)
            (subst (λ own. LeadAll defs new (own ++ by) (scope_of q.entries ++ scope_with p.arguments)) (sym q.terms)
            (lead_entries defs new q.entries (entries_fitted defs new c.pattern t q.entries q.terms g) by (scope_with p.arguments) leads));
      })

  cases_fit : (s : Sort) (cases : List PredCase) → CasesFit defs specs before name p s cases → (t : Plain) → TermFits defs new s t → (o : Opening) → opened_case (case_for cases t) t by ≡ Ok o → Fitting o
  cases_fit (ListOf' q (more_of-Sort item end_of-Sort)) cases k t g o e =
      let c = the_case by cases t o e in
      let f = found_in (CaseFits defs specs before name p (list_sort item) item) cases t c.case c.found k.1 in
      case_fits (list_sort item) item t c.case (g.fits.allowed, g.known) (list_parts item c.case.pattern t f.of' g.fits.sorted) f.fits o c.is
  cases_fit (TreeOf' q (more_of-Sort item end_of-Sort)) cases k t g o e =
      let c = the_case by cases t o e in
      let f = found_in (CaseFits defs specs before name p (tree_sort item) item) cases t c.case c.found k.1 in
      case_fits (tree_sort item) item t c.case (g.fits.allowed, g.known) (tree_parts item c.case.pattern t f.of' g.fits.sorted) f.fits o c.is
  cases_fit s cases k t g o e = absurd k

  first_fits : (bs : List Binder) (ts : List Plain) (cases : List PredCase) → FirstFits defs specs before name p bs cases → TermsFit defs new (sorts_with bs) ts → (o : Opening) → opened_by (Cases cases) ts by ≡ Ok o → Fitting o
  first_fits [] ts cases k s o e = absurd k
  first_fits (b ∷ bs) [] cases k s o e = absurd s
  first_fits (b ∷ bs) (t ∷ ts) cases k s o e = cases_fit b.sort cases k t s.0 o e

  body_fits : (b : PredBody) (ts : List Plain) → PredBodyFits defs specs before name p b → TermsFit defs new (sorts_with p.arguments) ts → (o : Opening) → opened_by b ts by ≡ Ok o → Fitting o
  body_fits (Whole a) ts k s o e = subst Fitting (same (by, a) o e) (record { scope = scope_with p.arguments; parts = []; fits = k; lead = leads })
    where
      same : (x y : Opening) → opened_by (Whole x.1) ts x.0 ≡ Ok y → x ≡ y
      same x y i = cc
  body_fits (Cases cases) ts k s o e = first_fits p.arguments ts cases k s o e

-- ---- what a clause is made of

pub opening_formed : (defs : Defs) (specs : SpecTable) (new : Scope) (name : List ℕ) (p : Pred) (terms : List Plain) → PredsFit defs specs [] defs.preds → lookup (bytes_eq name) defs.preds ≡ Some p → TermsFit defs new (sorts_with p.arguments) terms → (o : Opening) →
    opened p terms ≡ Ok o → nodes o.0 + body_nodes o.1 < 2 ^ 63 → AssertionFits defs specs new (assertion_after (puts o.0) o.1)
opening_formed defs specs new name p terms preds own fit o e small =
    let at = placed defs specs name p preds own in
    let by = goes (taken p.arguments terms) (opened_by p.body terms) o e in
    let t = taken_is p.arguments terms by.value by.first in
    let behind = subst (LeadAll defs new (pairs p.arguments terms)) (append-nil (scope_with p.arguments)) (lead_pairs defs new p.arguments terms [] fit (lead_none defs new)) in
    let leads = subst (λ all. LeadAll defs new all (scope_with p.arguments)) (sym t.is) behind in
    let f = body_fits defs specs at.before name p by.value new leads p.body terms at.fits.body fit o by.then' in
    assertion_formed defs specs (puts o.0) f.scope new o.1 (omega (arith, small, weight_puts o.0)) f.lead (none_called o.0) (body_known defs specs name p at own f.parts f.scope o.1 f.fits.fits)

-- the clause of a PRED of that name
pub record Found (defs : Defs) (name : List ℕ) (terms : List Plain) (clause : Assertion) : Type 0 where
  pub pred : Pred
  pub there : lookup (bytes_eq name) defs.preds ≡ Some pred
  pub is : clause_in pred terms ≡ Ok clause

pub found : (defs : Defs) (name : List ℕ) (terms : List Plain) (clause : Assertion) → clause_of defs name terms ≡ Ok clause → Found defs name terms clause
found defs name terms clause e = by (lookup (bytes_eq name) defs.preds) refl e
  where
    shown : (p : Pred) → lookup (bytes_eq name) defs.preds ≡ Some p → (b : Bool) → (if b then Err (hidden name) else clause_in p terms) ≡ Ok clause → Found defs name terms clause
    shown p i true f = absurd cc
    shown p i false f = record { pred = p; there = i; is = f }

    by : (o : Option Pred) → lookup (bytes_eq name) defs.preds ≡ o → clause_by defs.home name o terms ≡ Ok clause → Found defs name terms clause
    by None i f = absurd cc
    by (Some p) i f = shown p i (is_hidden defs.home p) f

module _ (defs : Defs) (specs : SpecTable) (scope : Scope) (name : List ℕ) (terms : List Plain) (others : ℕ) (clause : Assertion) (preds : PredsFit defs specs [] defs.preds) (few : HasFewNodes defs name terms others) (f : Found defs name terms clause) where
  pub found_formed : TermsFit defs scope (sorts_with f.pred.arguments) terms → AssertionFits defs specs scope clause
  found_formed fit =
      let o = goes (opened f.pred terms) with_terms clause f.is in
      let is = within assertion_fits (assertion_after (puts o.value.0) o.value.1) clause o.then' in
      subst (AssertionFits defs specs scope) (sym is) (opening_formed defs specs scope name f.pred terms preds f.there fit o.value o.first (few.opened f.pred o.value f.there o.first))

  -- the terms are those of a call of the PRED
  pub call_fits : PredicatesOf defs scope name terms → TermsFit defs scope (sorts_with f.pred.arguments) terms
  call_fits c = subst (λ (p : Pred). TermsFit defs scope (sorts_with p.arguments) terms) (one c.0 f.pred (sym c.1 ∙ f.there)) c.2
    where
      one : (p q : Pred) → Some p ≡ Some q → p ≡ q
      one p q e = cc

pub clause_formed : (defs : Defs) (specs : SpecTable) (scope : Scope) (name : List ℕ) (terms : List Plain) (others : ℕ) (clause : Assertion) → PredsFit defs specs [] defs.preds → PredicatesOf defs scope name terms → HasFewNodes defs name terms others → clause_of defs name terms ≡ Ok clause →
    AssertionFits defs specs scope clause
clause_formed defs specs scope name terms others clause preds call few e =
    let f = found defs name terms clause e in
    found_formed defs specs scope name terms others clause preds few f (call_fits defs specs scope name terms others clause preds few f call)
