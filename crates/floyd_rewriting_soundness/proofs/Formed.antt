-- A well-formed assertion is well sorted.
use Rattle.std.proofs.Common.{◌≡◌, true, List, [], ◌∷◌, ◌++◌, map, Some, refl, sym, ap, subst, ◌∙◌}
use Rattle.std.specs.Prelude.{IsSome}
use Rattle.std.specs.List.{AllByRecursion, flat_map}
use Rattle.floyd_tree_sorts.specs.declared.sorts.Sort.{Sort, Z, Val}
use Rattle.floyd_tree.specs.declared.paths.PathStep.{PathStep}
use Rattle.floyd_tree.specs.declared.paths.PathStep.TheVariants.{Field, Subscript}
use Rattle.floyd_tree.specs.Formulas.{PlainFormula, all_well_sorted, formulas, well_sorted}
use Rattle.floyd_tree.specs.Plain.{Plain, plains}
use Rattle.floyd_tree.specs.WellSorted.{sort_of, sorts_of, with_first}
use Rattle.floyd_tree_values.specs.Rules.{Scope}
use Rattle.floyd_truth.proofs.Fresh.{both_true}
use Rattle.floyd_assert_trees.specs.declared.assertion.Assertion.{Assertion}
use Rattle.floyd_assert_trees.specs.declared.assertion.Local.{Local}
use Rattle.floyd_assert_trees.specs.declared.binder.Binder.{Binder}
use Rattle.floyd_assert_trees.specs.declared.items.Defs.{Defs}
use Rattle.floyd_assert_trees.specs.declared.sep.Region.{Region}
use Rattle.floyd_assert_trees.specs.declared.sep.Sep.{Sep}
use Rattle.floyd_assert_trees.specs.declared.sep.Sep.TheVariants.{FieldAt, Padding, Valid, Anything, Predicate}
use Rattle.floyd_assert_trees.specs.declared.spec.SpecTable.{SpecTable}
use Rattle.floyd_assert_changes.specs.Changed.{local_terms, part_terms, region_terms, step_terms, terms_in}
use Rattle.floyd_assert_laws.specs.InChanged.{IsSorted}
use Rattle.floyd_goal_forms.specs.Assertions.{AssertionFits, PartFits, PartsFit, PredicatesOf, RegionFits, StepFits, inner_scope}
use Rattle.floyd_goal_forms.specs.Terms.{FormulasFit, TermFits, TermsFit}

abbrev HasSort : Plain → Type 0
HasSort t = (s : Sort) × (sort_of t ≡ Some s)

both_all : {A : Type 0} (P : A → Type 0) (xs ys : List A) → AllByRecursion P xs → AllByRecursion P ys → AllByRecursion P (xs ++ ys)
both_all P [] ys h k = k
both_all P (x ∷ xs) ys h k = (h.0, both_all P xs ys h.1 k)

list_sorted : (ts : List Plain) → AllByRecursion HasSort ts → (ss : List Sort) × (sorts_of (plains ts) ≡ Some ss)
list_sorted [] h = ([], refl)
list_sorted (t ∷ ts) h =
    let rest = list_sorted ts h.1 in
    (h.0.0 ∷ rest.0, ap (λ o. with_first o (sorts_of (plains ts))) h.0.1 ∙ ap (with_first (Some h.0.0)) rest.1)

module _ (defs : Defs) (scope : Scope) where
  of_sorts : (sorts : List Sort) (ts : List Plain) → TermsFit defs scope sorts ts → AllByRecursion HasSort ts
  of_sorts [] [] h = tt
  of_sorts [] (t ∷ ts) h = absurd h
  of_sorts (s ∷ sorts) [] h = absurd h
  of_sorts (s ∷ sorts) (t ∷ ts) h = ((s, h.0.fits.sorted), of_sorts sorts ts h.1)

  of_sizes : (ts : List Plain) → AllByRecursion (TermFits defs scope Z) ts → AllByRecursion HasSort ts
  of_sizes [] h = tt
  of_sizes (t ∷ ts) h = ((Z, h.0.fits.sorted), of_sizes ts h.1)

  of_steps : (path : List PathStep) → AllByRecursion (StepFits defs scope) path → AllByRecursion HasSort (flat_map step_terms path)
  of_steps [] h = tt
  of_steps (Field x ∷ path) h = of_steps path h.1
  of_steps (Subscript t ∷ path) h = ((Z, h.0.fits.sorted), of_steps path h.1)

  of_region : (region : Region) → RegionFits defs scope region → AllByRecursion HasSort (region_terms region)
  of_region region h = (
    (Z, h.share.fits.sorted),
    both_all HasSort region.ty.sizes (flat_map step_terms region.path ++ region.root ∷ []) (of_sizes region.ty.sizes h.type.sizes.sizes)
        (both_all HasSort (flat_map step_terms region.path) (region.root ∷ []) (of_steps region.path h.steps) ((Val, h.root.fits.sorted), tt)),
  )

  of_part : (p : Sep) → PartFits defs scope (PredicatesOf defs scope) p → AllByRecursion HasSort (part_terms p)
  of_part (FieldAt region value) h = both_all HasSort (region_terms region) (value ∷ []) (of_region region h.region) ((h.sort, h.term.fits.sorted), tt)
  of_part (Padding region) h = of_region region h.0
  of_part (Valid t) h = ((Val, h.fits.sorted), tt)
  of_part Anything h = tt
  of_part (Predicate name terms) h = of_sorts (map (λ (b : Binder). b.sort) h.0.arguments) terms h.2

  of_parts : (ps : List Sep) → PartsFit defs scope (PredicatesOf defs scope) ps → AllByRecursion HasSort (flat_map part_terms ps)
  of_parts [] h = tt
  of_parts (p ∷ ps) h = both_all HasSort (part_terms p) (flat_map part_terms ps) (of_part p h.0) (of_parts ps h.1)

  of_locals : (ls : List Local) → AllByRecursion (λ (l : Local). TermFits defs scope Val l.term) ls → AllByRecursion HasSort (local_terms ls)
  of_locals [] h = tt
  of_locals (l ∷ ls) h = ((Val, h.0.fits.sorted), of_locals ls h.1)

  props_sorted : (specs : SpecTable) (fs : List PlainFormula) → FormulasFit defs specs scope fs → all_well_sorted (formulas fs) ≡ true
  props_sorted specs [] h = refl
  props_sorted specs (f ∷ fs) h = both_true (well_sorted f) (all_well_sorted (formulas fs)) h.0.fits.sorted (props_sorted specs fs h.1)

pub formed_sorted : (defs : Defs) (specs : SpecTable) (scope : Scope) (a : Assertion) → AssertionFits defs specs scope a → IsSorted a
formed_sorted defs specs scope a h =
    let inner = inner_scope a scope in
    let s = list_sorted (terms_in a) (both_all HasSort (local_terms a.locals) (flat_map part_terms a.parts) (of_locals defs inner a.locals h.locals) (of_parts defs inner a.parts h.parts)) in
    record { props = props_sorted defs inner specs a.props h.props; terms = subst IsSome (sym s.1) refl }
