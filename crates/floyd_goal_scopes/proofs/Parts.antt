-- What occurs in well-formed parts and assertions is a variable of the scope.
use Rattle.std.proofs.Common.{◌≡◌, ⊎_elim, ℕ, true, not, ◌||◌, List, [], ◌∷◌, ◌++◌, map, Option, Some, None}
use Rattle.std.specs.List.{AllByRecursion, flat_map}
use Rattle.std.proofs.lemmas.Bool.{and_parts, not-true, or_cases}
use Rattle.floyd_ctypes.specs.declared.ctype.CType.{CType, Void}
use Rattle.floyd_tree_sorts.specs.declared.sorts.Sort.{Z, Val}
use Rattle.floyd_tree.specs.declared.paths.PathStep.{PathStep}
use Rattle.floyd_tree.specs.declared.paths.PathStep.TheVariants.{Field, Subscript}
use Rattle.floyd_tree.specs.Formulas.{formulas, formulas_mention}
use Rattle.floyd_tree.specs.Plain.{Plain, mentions_in, plains}
use Rattle.floyd_tree_values.specs.Rules.{Scope}
use Rattle.floyd_assert_trees.specs.declared.assertion.Assertion.{Assertion}
use Rattle.floyd_assert_trees.specs.declared.assertion.Local.{Local}
use Rattle.floyd_assert_trees.specs.declared.binder.Binder.{Binder}
use Rattle.floyd_assert_trees.specs.declared.items.Defs.{Defs}
use Rattle.floyd_assert_trees.specs.declared.sep.Region.{Region}
use Rattle.floyd_assert_trees.specs.declared.sep.Sep.{Sep}
use Rattle.floyd_assert_trees.specs.declared.sep.Sep.TheVariants.{FieldAt, Padding, Valid, Anything, Predicate}
use Rattle.floyd_assert_trees.specs.declared.spec.SpecTable.{SpecTable}
use Rattle.floyd_assert_changes.specs.Changed.{body_mentions, has_name, local_terms, part_terms, region_terms, step_terms, terms_in}
use Rattle.floyd_assert_laws.specs.Free.{assertion_mentions, end_mentions, option_mentions, post_mentions}
use Rattle.floyd_goal_forms.specs.Assertions.{AssertionFits, PartFits, PartsFit, PredicatesOf, RegionFits, StepFits, inner_scope}
use Rattle.floyd_goal_forms.specs.Goals.{ResultFits, ReturnFits}
use Rattle.floyd_goal_forms.specs.Terms.{TermFits}
use Rattle.floyd_goal_meaning.specs.GoalHolds.{postcondition}
use Rattle.floyd_goal_trees.specs.declared.exits.Return as ret
use Rattle.floyd_goal_scopes.proofs.Terms.{Known, KnownIn, all_known, behind, fits_known, list_known, props_known}

all_append : {A : Type 0} (P : A → Type 0) (xs ys : List A) → AllByRecursion P xs → AllByRecursion P ys → AllByRecursion P (xs ++ ys)
all_append P [] ys h k = k
all_append P (x ∷ xs) ys h k = (h.0, all_append P xs ys h.1 k)

module _ (v : List ℕ) (defs : Defs) (scope : Scope) where
  abbrev All : List Plain → Type 0
  All ts = AllByRecursion (KnownIn v defs scope) ts

  sizes_known : (ts : List Plain) → AllByRecursion (TermFits defs scope Z) ts → All ts
  sizes_known [] h = tt
  sizes_known (t ∷ ts) h = (fits_known v defs scope Z t h.0, sizes_known ts h.1)

  steps_known : (path : List PathStep) → AllByRecursion (StepFits defs scope) path → All (flat_map step_terms path)
  steps_known [] h = tt
  steps_known (Field x ∷ path) h = steps_known path h.1
  steps_known (Subscript t ∷ path) h = (fits_known v defs scope Z t h.0, steps_known path h.1)

  region_known : (r : Region) → RegionFits defs scope r → All (region_terms r)
  region_known r h = (
    fits_known v defs scope Z r.share h.share,
    all_append (KnownIn v defs scope) r.ty.sizes (flat_map step_terms r.path ++ r.root ∷ []) (sizes_known r.ty.sizes h.type.sizes.sizes)
        (all_append (KnownIn v defs scope) (flat_map step_terms r.path) (r.root ∷ []) (steps_known r.path h.steps) (fits_known v defs scope Val r.root h.root, tt)),
  )

  part_known : (p : Sep) → PartFits defs scope (PredicatesOf defs scope) p → All (part_terms p)
  part_known (FieldAt r value) h = all_append (KnownIn v defs scope) (region_terms r) (value ∷ []) (region_known r h.region) (fits_known v defs scope h.sort value h.term, tt)
  part_known (Padding r) h = region_known r h.0
  part_known (Valid t) h = (fits_known v defs scope Val t h, tt)
  part_known Anything h = tt
  part_known (Predicate name terms) h = all_known v defs scope (map (λ (b : Binder). b.sort) h.0.arguments) terms h.2

  parts_known : (ps : List Sep) → PartsFit defs scope (PredicatesOf defs scope) ps → All (flat_map part_terms ps)
  parts_known [] h = tt
  parts_known (p ∷ ps) h = all_append (KnownIn v defs scope) (part_terms p) (flat_map part_terms ps) (part_known p h.0) (parts_known ps h.1)

  locals_known : (ls : List Local) → AllByRecursion (λ (l : Local). TermFits defs scope Val l.term) ls → All (local_terms ls)
  locals_known [] h = tt
  locals_known (l ∷ ls) h = (fits_known v defs scope Val l.term h.0, locals_known ls h.1)

  value_known : (result : CType) (value : Option Plain) → ResultFits defs scope result value → option_mentions value v ≡ true → Known scope v
  value_known result None h e = absurd cc
  value_known Void (Some t) h e = absurd h
  value_known result (Some t) h e = fits_known v defs scope Val t h e

module _ (v : List ℕ) (defs : Defs) (specs : SpecTable) (scope : Scope) where
  body_known : (a : Assertion) → AssertionFits defs specs scope a → body_mentions a v ≡ true → Known (inner_scope a scope) v
  body_known a h e = ⊎_elim
      (props_known v defs (inner_scope a scope) specs a.props h.props)
      (list_known v defs (inner_scope a scope) (terms_in a)
      (all_append (KnownIn v defs (inner_scope a scope)) (local_terms a.locals) (flat_map part_terms a.parts) (locals_known v defs (inner_scope a scope) a.locals h.locals) (parts_known v defs (inner_scope a scope) a.parts h.parts)))
      (or_cases (formulas_mention v (formulas a.props)) (mentions_in v (plains (terms_in a))) e)

  pub assertion_known : (a : Assertion) → AssertionFits defs specs scope a → assertion_mentions a v ≡ true → Known scope v
  assertion_known a h e =
      let p = and_parts (body_mentions a v) (not (has_name v a.existentials)) e in
      behind v a.existentials scope (not-true (has_name v a.existentials) p.1) (body_known a h p.0)

  pub return_known : (r : ret.Return) → ReturnFits defs specs scope r → post_mentions (postcondition r) v ≡ true → Known scope v
  return_known r h e =
      let p = and_parts (end_mentions (postcondition r) v) (not (has_name v r.post.existentials)) e in
      let inner = inner_scope r.post scope in
      behind v r.post.existentials scope (not-true (has_name v r.post.existentials) p.1)
      (⊎_elim
      (props_known v defs inner specs r.post.props h.post.props)
      (λ k. ⊎_elim
      (value_known v defs inner r.result r.value h.value)
      (list_known v defs inner (flat_map part_terms r.post.parts) (parts_known v defs inner r.post.parts h.post.parts))
      (or_cases (option_mentions r.value v) (mentions_in v (plains (flat_map part_terms r.post.parts))) k))
      (or_cases (formulas_mention v (formulas r.post.props)) (option_mentions r.value v || mentions_in v (plains (flat_map part_terms r.post.parts))) p.0))
