-- What is well formed is sorted.
use Rattle.std.proofs.Common.{◌≡◌, true, List, [], ◌∷◌, ◌++◌, map, Some, refl, sym, ap, subst, ◌∙◌}
use Rattle.std.specs.Prelude.{IsSome}
use Rattle.std.specs.List.{AllByRecursion, flat_map}
use Rattle.std.proofs.lemmas.Bool.{and_from}
use Rattle.floyd_tree_sorts.specs.declared.sorts.Sort.{Sort, Z, Val}
use Rattle.floyd_tree.specs.declared.paths.PathStep.{PathStep}
use Rattle.floyd_tree.specs.declared.paths.PathStep.TheVariants.{Field, Subscript}
use Rattle.floyd_tree.specs.Formulas.{PlainFormula, all_well_sorted, formulas, well_sorted}
use Rattle.floyd_tree.specs.Plain.{Plain, plains}
use Rattle.floyd_tree.specs.WellSorted.{sort_of, sorts_of, with_first}
use Rattle.floyd_tree_values.specs.Rules.{Scope}
use Rattle.floyd_assert_trees.specs.declared.assertion.Assertion.{Assertion}
use Rattle.floyd_assert_trees.specs.declared.assertion.Local.{Local}
use Rattle.floyd_assert_trees.specs.declared.binder.Binder.{Binder}
use Rattle.floyd_assert_trees.specs.declared.items.Defs.{Defs}
use Rattle.floyd_assert_trees.specs.declared.sep.Region.{Region}
use Rattle.floyd_assert_trees.specs.declared.sep.Sep.{Sep}
use Rattle.floyd_assert_trees.specs.declared.sep.Sep.TheVariants.{FieldAt, Padding, Valid, Anything, Predicate}
use Rattle.floyd_assert_trees.specs.declared.spec.SpecTable.{SpecTable}
use Rattle.floyd_assert_changes.specs.Changed.{local_terms, part_terms, region_terms, step_terms, terms_in}
use Rattle.floyd_assert_laws.specs.InChanged.{IsSorted}
use Rattle.floyd_goal_forms.specs.Assertions.{AssertionFits, PartFits, PartsFit, PredicatesOf, RegionFits, StepFits, inner_scope}
use Rattle.floyd_goal_forms.specs.Terms.{FormulasFit, TermFits, TermsFit}

-- a term of some sort
abbrev HasSort : Plain → Type 0
HasSort t = (s : Sort) × (sort_of t ≡ Some s)

joined : (ts us : List Plain) → AllByRecursion HasSort ts → AllByRecursion HasSort us → AllByRecursion HasSort (ts ++ us)
joined [] us h k = k
joined (t ∷ ts) us h k = (h.0, joined ts us h.1 k)

all_sorts : (ts : List Plain) → AllByRecursion HasSort ts → (ss : List Sort) × (sorts_of (plains ts) ≡ Some ss)
all_sorts [] h = ([], refl)
all_sorts (t ∷ ts) h =
    let rest = all_sorts ts h.1 in
    (h.0.0 ∷ rest.0, ap (λ o. with_first o (sorts_of (plains ts))) h.0.1 ∙ ap (with_first (Some h.0.0)) rest.1)

module _ (defs : Defs) (scope : Scope) where
  has_sort : (s : Sort) (t : Plain) → TermFits defs scope s t → HasSort t
  has_sort s t h = (s, h.fits.sorted)

  numbers_sorted : (ts : List Plain) → AllByRecursion (TermFits defs scope Z) ts → AllByRecursion HasSort ts
  numbers_sorted [] h = tt
  numbers_sorted (t ∷ ts) h = (has_sort Z t h.0, numbers_sorted ts h.1)

  terms_sorted : (sorts : List Sort) (ts : List Plain) → TermsFit defs scope sorts ts → AllByRecursion HasSort ts
  terms_sorted [] [] h = tt
  terms_sorted [] (t ∷ ts) h = absurd h
  terms_sorted (s ∷ sorts) [] h = absurd h
  terms_sorted (s ∷ sorts) (t ∷ ts) h = (has_sort s t h.0, terms_sorted sorts ts h.1)

  steps_sorted : (path : List PathStep) → AllByRecursion (StepFits defs scope) path → AllByRecursion HasSort (flat_map step_terms path)
  steps_sorted [] h = tt
  steps_sorted (Field x ∷ path) h = steps_sorted path h.1
  steps_sorted (Subscript t ∷ path) h = (has_sort Z t h.0, steps_sorted path h.1)

  region_sorted : (r : Region) → RegionFits defs scope r → AllByRecursion HasSort (region_terms r)
  region_sorted r h = (
    has_sort Z r.share h.share,
    joined r.ty.sizes (flat_map step_terms r.path ++ r.root ∷ []) (numbers_sorted r.ty.sizes h.type.sizes.sizes) (joined (flat_map step_terms r.path) (r.root ∷ []) (steps_sorted r.path h.steps) (has_sort Val r.root h.root, tt)),
  )

  part_sorted : (p : Sep) → PartFits defs scope (PredicatesOf defs scope) p → AllByRecursion HasSort (part_terms p)
  part_sorted (FieldAt r v) h = joined (region_terms r) (v ∷ []) (region_sorted r h.region) (has_sort h.sort v h.term, tt)
  part_sorted (Padding r) h = region_sorted r h.0
  part_sorted (Valid t) h = (has_sort Val t h, tt)
  part_sorted Anything h = tt
  part_sorted (Predicate name terms) h = terms_sorted (map (λ (b : Binder). b.sort) h.0.arguments) terms h.2

  parts_sorted : (ps : List Sep) → PartsFit defs scope (PredicatesOf defs scope) ps → AllByRecursion HasSort (flat_map part_terms ps)
  parts_sorted [] h = tt
  parts_sorted (p ∷ ps) h = joined (part_terms p) (flat_map part_terms ps) (part_sorted p h.0) (parts_sorted ps h.1)

  locals_sorted : (ls : List Local) → AllByRecursion (λ (l : Local). TermFits defs scope Val l.term) ls → AllByRecursion HasSort (local_terms ls)
  locals_sorted [] h = tt
  locals_sorted (l ∷ ls) h = (has_sort Val l.term h.0, locals_sorted ls h.1)

  pub props_sorted : (specs : SpecTable) (fs : List PlainFormula) → FormulasFit defs specs scope fs → all_well_sorted (formulas fs) ≡ true
  props_sorted specs [] h = refl
  props_sorted specs (f ∷ fs) h = and_from (well_sorted f) (all_well_sorted (formulas fs)) h.0.fits.sorted (props_sorted specs fs h.1)

pub assertion_sorted : (defs : Defs) (specs : SpecTable) (scope : Scope) (a : Assertion) → AssertionFits defs specs scope a → IsSorted a
assertion_sorted defs specs scope a h =
    let inner = inner_scope a scope in
    let all = joined (local_terms a.locals) (flat_map part_terms a.parts) (locals_sorted defs inner a.locals h.locals) (parts_sorted defs inner a.parts h.parts) in
    let sorts = all_sorts (terms_in a) all in
    record { props = props_sorted defs inner specs a.props h.props; terms = subst IsSome (sym sorts.1) refl }
