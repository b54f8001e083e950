-- A PRED of the file is well formed behind those before it, and its assertions are well formed over the whole file.
use Rattle.std.proofs.Common.{◌≡◌, inl, inr, ℕ, Bool, true, false, cond, List, [], ◌∷◌, ◌++◌, Some, refl, sym, ◌∙◌, ap, subst, append_assoc}
use Rattle.std.specs.Prelude.{bytes_eq}
use Rattle.std.specs.Map.{lookup}
use Rattle.std.proofs.lemmas.Slice.Eq.{bytes_eq-Decides}
use Rattle.floyd_tree.specs.Plain.{Plain}
use Rattle.floyd_tree_values.specs.Rules.{Scope}
use Rattle.floyd_assert_trees.specs.declared.assertion.Assertion.{Assertion}
use Rattle.floyd_assert_trees.specs.declared.items.Defs.{Defs}
use Rattle.floyd_assert_trees.specs.declared.items.Pred.{Pred}
use Rattle.floyd_assert_trees.specs.declared.sep.Sep.{Sep}
use Rattle.floyd_assert_trees.specs.declared.sep.Sep.TheVariants.{FieldAt, Padding, Valid, Anything, Predicate}
use Rattle.floyd_assert_trees.specs.declared.spec.SpecTable.{SpecTable}
use Rattle.floyd_goal_forms.specs.Assertions.{AssertionFits, AssertionFitsBy, PartFits, PartsFit, PredicatesOf, inner_scope}
use Rattle.floyd_goal_forms.specs.Items.{CallsFrom, PredFits, PredsFit}

lookup_front : (name : List ℕ) (before more : List (List ℕ × Pred)) (p : Pred) → lookup (bytes_eq name) before ≡ Some p → lookup (bytes_eq name) (before ++ more) ≡ Some p
lookup_front name [] more p e = absurd cc
lookup_front name (q ∷ before) more p e = by (lookup_front name before more p) (bytes_eq name q.0) e
  where
    by : (lookup (bytes_eq name) before ≡ Some p → lookup (bytes_eq name) (before ++ more) ≡ Some p) → (c : Bool) → cond c (Some q.1) (lookup (bytes_eq name) before) ≡ Some p → cond c (Some q.1) (lookup (bytes_eq name) (before ++ more)) ≡ Some p
    by go true i = i
    by go false i = go i

module _ (defs : Defs) (specs : SpecTable) (name : List ℕ) (p : Pred) where
  pub record Placed : Type 0 where
    pub before : List (List ℕ × Pred)
    pub fits : PredFits defs specs before name p
    pub known : (n : List ℕ) (q : Pred) → lookup (bytes_eq n) before ≡ Some q → lookup (bytes_eq n) defs.preds ≡ Some q

  placed_among : (before preds : List (List ℕ × Pred)) → PredsFit defs specs before preds → before ++ preds ≡ defs.preds → lookup (bytes_eq name) preds ≡ Some p → Placed
  placed_among before [] h whole e = absurd cc
  placed_among before (q ∷ preds) h whole e =
      by (placed_among (before ++ q ∷ []) preds h.1 (append_assoc before (q ∷ []) preds ∙ whole)) (bytes_eq name q.0) refl e
    where
      by : (lookup (bytes_eq name) preds ≡ Some p → Placed) → (c : Bool) → bytes_eq name q.0 ≡ c → cond c (Some q.1) (lookup (bytes_eq name) preds) ≡ Some p → Placed
      by go true i e =
          let same : q.1 ≡ p = cc in
          let named : name ≡ q.0 = (bytes_eq-Decides name q.0).0 i in
          record {
            before = before;
            fits = subst (PredFits defs specs before name) same (subst (λ n. PredFits defs specs before n q.1) (sym named) h.0);
            known = λ n r k. subst (λ all. lookup (bytes_eq n) all ≡ Some r) whole (lookup_front n before (q ∷ preds) r k);
          }
      by go false i e = go e

  pub placed : PredsFit defs specs [] defs.preds → lookup (bytes_eq name) defs.preds ≡ Some p → Placed
  placed h e = placed_among [] defs.preds h refl e

  module _ (at : Placed) (own : lookup (bytes_eq name) defs.preds ≡ Some p) (parts : List (List ℕ)) where
    call_known : (scope : Scope) (n : List ℕ) (terms : List Plain) → CallsFrom defs at.before name p parts scope n terms → PredicatesOf defs scope n terms
    call_known scope n terms (inl c) = (c.0, at.known n c.0 c.1, c.2)
    call_known scope n terms (inr c) = (p, ap (λ m. lookup (bytes_eq m) defs.preds) c.0 ∙ own, c.1)

    part_known : (scope : Scope) (q : Sep) → PartFits defs scope (CallsFrom defs at.before name p parts scope) q → PartFits defs scope (PredicatesOf defs scope) q
    part_known scope (FieldAt r value) h = h
    part_known scope (Padding r) h = h
    part_known scope (Valid t) h = h
    part_known scope Anything h = tt
    part_known scope (Predicate n terms) h = call_known scope n terms h

    parts_known : (scope : Scope) (qs : List Sep) → PartsFit defs scope (CallsFrom defs at.before name p parts scope) qs → PartsFit defs scope (PredicatesOf defs scope) qs
    parts_known scope [] h = tt
    parts_known scope (q ∷ qs) h = (part_known scope q h.0, parts_known scope qs h.1)

    pub body_known : (scope : Scope) (a : Assertion) → AssertionFitsBy defs specs (CallsFrom defs at.before name p parts) scope a → AssertionFits defs specs scope a
    body_known scope a h = record {
      existentials = h.existentials;
      props = h.props;
      temporaries = h.temporaries;
      locals = h.locals;
      parts = parts_known (inner_scope a scope) a.parts h.parts;
    }
