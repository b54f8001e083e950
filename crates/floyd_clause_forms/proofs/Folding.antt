-- Terms for the arguments of a predicate and for the existentials of its clause.
use Rattle.std.proofs.Common.{◌≡◌, ℕ, ◌+◌, ◌<◌, ◌≤◌, ◌^◌, Bool, true, false, cond, List, [], ◌∷◌, ◌++◌, Some, Ok, sym, ◌∙◌, subst, arith}
use Rattle.std.specs.Prelude.{bytes_eq}
use Rattle.std.specs.Map.{lookup}
use Rattle.std.proofs.lemmas.Bool.{and_parts}
use Rattle.floyd_tree.specs.Plain.{Plain, plains, sizes}
use Rattle.floyd_tree.specs.WellSorted.{sort_of}
use Rattle.floyd_tree_values.specs.Rules.{Scope}
use Rattle.floyd_truth.specs.Capture.{Put}
use Rattle.floyd_truth.specs.Laws.{nodes}
use Rattle.floyd_truth.specs.Replace.{HasSortOf, puts}
use Rattle.floyd_assert_trees.specs.declared.assertion.Assertion.{Assertion}
use Rattle.floyd_assert_trees.specs.declared.binder.Binder.{Binder}
use Rattle.floyd_assert_trees.specs.declared.items.Defs.{Defs}
use Rattle.floyd_assert_trees.specs.declared.spec.SpecTable.{SpecTable}
use Rattle.floyd_assert_changes.specs.Changed.{assertion_after}
use Rattle.floyd_assert_laws.specs.InChanged.{body_nodes}
use Rattle.floyd_assert_instances.specs.Instances.{have_sorts, is_sort, pairs, taken}
use Rattle.floyd_clauses.specs.Clauses.{opened, opened_by, with_terms}
use Rattle.floyd_entail_predicates.specs.Fold.{SortsAgree, below}
use Rattle.floyd_goal_forms.specs.Assertions.{AssertionFits, inner_scope}
use Rattle.floyd_goal_forms.specs.Items.{PredsFit, sorts_with}
use Rattle.floyd_goal_forms.specs.Terms.{TermsFit, scope_with}
use Rattle.floyd_goal_trees.specs.declared.args.Args.{Args}
use Rattle.floyd_formed_renaming.proofs.Assertions.{assertion_formed}
use Rattle.floyd_import_laws.proofs.Sorted.{Suiting, formed_agrees}
use Rattle.floyd_funspec_laws.proofs.Made.{goes, sort_is, taken_is}
use Rattle.floyd_clause_laws.proofs.Sorting.{opens_well}
use Rattle.floyd_clause_forms.specs.Laws.{AreGiven, HasFewNodes}
use Rattle.floyd_clause_forms.proofs.Forming.{Found, found, found_formed}
use Rattle.floyd_clause_forms.proofs.Leading.{LeadAll, counted, given_fit, lead_pairs, lead_same, none_called, weight_puts}

pub suits_over : (bs : List Binder) (ts : List Plain) (scope : Scope) → have_sorts bs ts ≡ true → Suiting (puts (pairs bs ts)) (scope_with bs ++ scope)
suits_over [] ts scope h v s e = tt
suits_over (b ∷ bs) [] scope h v s e = tt
suits_over (b ∷ bs) (t ∷ ts) scope h v s e =
    let p = and_parts (is_sort b.sort (sort_of t)) (have_sorts bs ts) h in
    by (suits_over bs ts scope p.1 v s) (sort_is b.sort (sort_of t) p.0) (bytes_eq v b.name) e
  where
    by : (lookup (bytes_eq v) (scope_with bs ++ scope) ≡ Some s → HasSortOf (lookup (bytes_eq v) (puts (pairs bs ts))) s) → sort_of t ≡ Some b.sort → (c : Bool) → cond c (Some b.sort) (lookup (bytes_eq v) (scope_with bs ++ scope)) ≡ Some s →
        HasSortOf (cond c (Some (Put t)) (lookup (bytes_eq v) (puts (pairs bs ts)))) s
    by go k true i = k ∙ i
    by go k false i = go i

-- what stands below the existentials of a well-formed assertion
pub below_formed : (defs : Defs) (specs : SpecTable) (scope : Scope) (a : Assertion) → AssertionFits defs specs scope a → AssertionFits defs specs (inner_scope a scope) (below a)
below_formed defs specs scope a h = record { existentials = tt; props = h.props; temporaries = h.temporaries; locals = h.locals; parts = h.parts }

module _ (defs : Defs) (scope : Scope) (name : List ℕ) (terms : List Plain) (clause : Assertion) (f : Found defs name terms clause) where
  -- terms that were taken for its arguments
  pub arguments_fit : AreGiven defs scope terms → TermsFit defs scope (sorts_with f.pred.arguments) terms
  arguments_fit given =
      let o = goes (opened f.pred terms) with_terms clause f.is in
      let by = goes (taken f.pred.arguments terms) (opened_by f.pred.body terms) o.value o.first in
      let t = taken_is f.pred.arguments terms by.value by.first in
      given_fit defs scope f.pred.arguments terms (counted f.pred.arguments terms by.value by.first) t.sorts given

pub pairs_few : (bs : List Binder) (ts : List Plain) → nodes (pairs bs ts) ≤ sizes (plains ts)
pairs_few [] ts = omega arith
pairs_few (b ∷ bs) [] = omega arith
pairs_few (b ∷ bs) (t ∷ ts) = omega (arith, pairs_few bs ts)

-- terms that were taken for the existentials of a well-formed assertion, in their place
module _ (defs : Defs) (specs : SpecTable) (scope : Scope) (a : Assertion) (fits : AssertionFits defs specs scope a) (terms : List Plain) (given : AreGiven defs scope terms) (by : List (List ℕ × Plain)) (taken_by : taken a.existentials terms ≡ Ok by) where
  pub witnesses_fit : TermsFit defs scope (sorts_with a.existentials) terms
  witnesses_fit =
      let t = taken_is a.existentials terms by taken_by in
      given_fit defs scope a.existentials terms (counted a.existentials terms by taken_by) t.sorts given

  pub witnesses_suit : Suiting (puts by) (inner_scope a scope)
  witnesses_suit =
      let t = taken_is a.existentials terms by taken_by in
      subst (λ all. Suiting (puts all) (inner_scope a scope)) (sym t.is) (suits_over a.existentials terms scope t.sorts)

  pub instance_few : sizes (plains terms) + body_nodes a < 2 ^ 63 → nodes by + body_nodes (below a) < 2 ^ 63
  instance_few l =
      let t = taken_is a.existentials terms by taken_by in
      let few = subst (λ all. nodes all ≤ sizes (plains terms)) (sym t.is) (pairs_few a.existentials terms) in
      omega (arith, l, few)

  pub instance_formed : sizes (plains terms) + body_nodes a < 2 ^ 63 → AssertionFits defs specs scope (assertion_after (puts by) (below a))
  instance_formed l =
      let t = taken_is a.existentials terms by taken_by in
      let leads = subst (λ all. LeadAll defs scope all (inner_scope a scope)) (sym t.is) (lead_pairs defs scope a.existentials terms scope witnesses_fit (lead_same defs scope)) in
      let few = instance_few l in
      assertion_formed defs specs (puts by) (inner_scope a scope) scope (below a) (omega (arith, few, weight_puts by)) leads (none_called by) (below_formed defs specs scope a fits)

pub folds : (defs : Defs) (specs : SpecTable) (scope : Scope) (args : Args) (others : ℕ) → PredsFit defs specs [] defs.preds → AreGiven defs scope args.terms → HasFewNodes defs args.name args.terms others → SortsAgree defs args
folds defs specs scope args others preds given few = record {
  clause = λ p own. opens_well defs specs args.name p args.terms preds own;
  existentials = λ clause e by taken_by.
      let f = found defs args.name args.terms clause e in
      let fits = found_formed defs specs scope args.name args.terms others clause preds few f (arguments_fit defs scope args.name args.terms clause f given) in
      let t = taken_is clause.existentials args.more by taken_by in
      let suits = subst (λ all. Suiting (puts all) (inner_scope clause scope)) (sym t.is) (suits_over clause.existentials args.more scope t.sorts) in
      formed_agrees defs specs (inner_scope clause scope) (below clause) (below_formed defs specs scope clause fits) (puts by) suits;
}
