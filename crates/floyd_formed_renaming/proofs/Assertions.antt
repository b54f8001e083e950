-- A well-formed assertion stays so with what is put in the place of variables, where its existentials get new names.
use Rattle.std.proofs.Common.{◌≡◌, ℕ, ◌+◌, ◌<◌, ◌^◌, Bool, true, List, [], ◌∷◌, ◌++◌, map, length, Some, refl, sym, subst, arith}
use Rattle.std.specs.Prelude.{bytes_eq}
use Rattle.std.specs.List.{flat_map}
use Rattle.std.specs.Map.{lookup}
use Rattle.floyd_tree.specs.Formulas.{PlainFormula, formula_mentions, formula_sizes, formulas, formulas_mention}
use Rattle.floyd_tree.specs.Plain.{Plain, mentions, mentions_in, plains, sizes}
use Rattle.floyd_tree_values.specs.Rules.{AreDistinct, Scope}
use Rattle.floyd_truth.specs.Capture.{Called, Changes, bound_in, bound_in_some}
use Rattle.floyd_truth.specs.Replace.{replaced_formula}
use Rattle.floyd_truth.proofs.Fresh.{or_left, or_right, weight}
use Rattle.floyd_assert_trees.specs.declared.assertion.Assertion.{Assertion}
use Rattle.floyd_assert_trees.specs.declared.binder.Binder.{Binder}
use Rattle.floyd_assert_trees.specs.declared.items.Defs.{Defs}
use Rattle.floyd_assert_trees.specs.declared.spec.SpecTable.{SpecTable}
use Rattle.floyd_assert_changes.specs.Changed.{assertion_after, below_existentials, body_binds, body_mentions, inside, local_terms, new_existentials, part_terms, terms_in}
use Rattle.floyd_assert_laws.specs.InChanged.{body_nodes}
use Rattle.floyd_goal_fits.proofs.Suiting.{suits_inside}
use Rattle.floyd_goal_forms.specs.Assertions.{AssertionFits, inner_scope}
use Rattle.floyd_goal_forms.specs.Terms.{FormulasFit, scope_with}
use Rattle.floyd_pure_formulas.proofs.Substituting.{Suiting}
use Rattle.floyd_formed_quantifiers.proofs.Leading.{Leads, Ready, ready_part}
use Rattle.floyd_formed_quantifiers.proofs.Replacing.{changed_formed}
use Rattle.floyd_formed_entail.proofs.Changing.{AreInside, IsInside, apart, locals_changed, names_stay, parts_changed, suits_by}
use Rattle.floyd_formed_renaming.proofs.Existentials.{new_distinct, ready_inside}

pub weight_inside : (old new : List Binder) (ch : Changes) → weight (below_existentials ch old new) ≡ weight ch
weight_inside [] new ch = refl
weight_inside (b ∷ old) [] ch = refl
weight_inside (b ∷ old) (c ∷ new) ch = weight_inside old new ((b.name, Called c.name) ∷ ch)

module _ (defs : Defs) (specs : SpecTable) (changes : Changes) (old new : Scope) (free bound : List ℕ → Bool) (suits : Suiting changes old) (ready : Ready defs changes old new free bound) where
  -- the formulas of PROP
  pub props_changed : (fs : List PlainFormula) → weight changes + formula_sizes (formulas fs) < 2 ^ 63 → ((v : List ℕ) → formulas_mention v (formulas fs) ≡ true → free v ≡ true) → ((v : List ℕ) → bound_in_some v (formulas fs) ≡ true → bound v ≡ true) →
      FormulasFit defs specs old fs → FormulasFit defs specs new (map (replaced_formula changes) fs)
  props_changed [] l k q h = tt
  props_changed (a ∷ fs) l k q h = (
    changed_formed defs specs changes old new a suits (omega (arith, l))
        (ready_part defs changes old new free bound ready (λ v. formula_mentions v a) (λ v. bound_in v a)
        (λ v e. k v (or_left (formula_mentions v a) (formulas_mention v (formulas fs)) e)) (λ v e. q v (or_left (bound_in v a) (bound_in_some v (formulas fs)) e)))
        h.0,
    props_changed fs (omega (arith, l)) (λ v e. k v (or_right (formula_mentions v a) (formulas_mention v (formulas fs)) e)) (λ v e. q v (or_right (bound_in v a) (bound_in_some v (formulas fs)) e)) h.1,
  )

  -- what is free in a list of terms
  pub terms_inside : (ts : List Plain) → ((v : List ℕ) → mentions_in v (plains ts) ≡ true → free v ≡ true) → AreInside defs changes old new free ready.leads ts
  terms_inside [] k = tt
  terms_inside (t ∷ ts) k = ((λ v i. k v (or_left (mentions v t) (mentions_in v (plains ts)) i)), terms_inside ts (λ v i. k v (or_right (mentions v t) (mentions_in v (plains ts)) i)))

pub assertion_formed : (defs : Defs) (specs : SpecTable) (ch : Changes) (old new : Scope) (a : Assertion) → weight ch + body_nodes a < 2 ^ 63 → ((v : List ℕ) → Leads defs ch old new v) → ((v z : List ℕ) → lookup (bytes_eq v) ch ≡ Some (Called z) → ⊥) →
    AssertionFits defs specs old a → AssertionFits defs specs new (assertion_after ch a)
assertion_formed defs specs ch old new a small leads none h =
    let less : weight ch + formula_sizes (formulas a.props) + sizes (plains (terms_in a)) + length a.existentials < 2 ^ 63 = omega (arith, small) in
    let inner = inner_scope a old in
    let outer = scope_with (new_existentials ch a) ++ new in
    let free = body_mentions a in
    let bound = body_binds a in
    let ready = ready_inside ch a less h.existentials defs old new leads none in
    let suits : Suiting ch old = λ v r e. suits_by defs ch old new (λ w. true) (λ w i. leads w) (lookup (bytes_eq v) ch) v r (leads v r e) in
    let below = suits_inside ch a old suits in
    let terms = terms_inside defs specs (inside ch a) inner outer free bound below ready (terms_in a) (λ v i. or_right (formulas_mention v (formulas a.props)) (mentions_in v (plains (terms_in a))) i) in
    let both = apart (IsInside defs (inside ch a) inner outer free ready.leads) (local_terms a.locals) (flat_map part_terms a.parts) terms in
    record {
      existentials = new_distinct ch a less h.existentials;
      props = props_changed defs specs (inside ch a) inner outer free bound below ready a.props (omega (arith, less, weight_inside a.existentials (new_existentials ch a) ch))
          (λ v i. or_left (formulas_mention v (formulas a.props)) (mentions_in v (plains (terms_in a))) i) (λ v i. i) h.props;
      temporaries = subst AreDistinct (sym (names_stay (inside ch a) a.locals)) h.temporaries;
      locals = locals_changed defs (inside ch a) inner outer free ready.leads a.locals both.0 h.locals;
      parts = parts_changed defs (inside ch a) inner outer free ready.leads a.parts both.1 h.parts;
    }
