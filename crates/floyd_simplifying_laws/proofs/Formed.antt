-- The terms of an assertion that is well formed are, over what a module sees and in the program.
use Rattle.std.proofs.Common.{List, [], ◌∷◌, ◌++◌, map}
use Rattle.std.specs.List.{AllByRecursion, flat_map}
use Rattle.floyd_tree_sorts.specs.declared.sorts.Sort.{Sort, Z, Val}
use Rattle.floyd_tree.specs.declared.paths.PathStep.{PathStep}
use Rattle.floyd_tree.specs.declared.paths.PathStep.TheVariants.{Field, Subscript}
use Rattle.floyd_tree.specs.Formulas.{PlainFormula}
use Rattle.floyd_tree.specs.Plain.{Plain}
use Rattle.floyd_tree_values.specs.Rules.{Scope}
use Rattle.floyd_assert_trees.specs.declared.assertion.Assertion.{Assertion}
use Rattle.floyd_assert_trees.specs.declared.assertion.Local.{Local}
use Rattle.floyd_assert_trees.specs.declared.binder.Binder.{Binder}
use Rattle.floyd_assert_trees.specs.declared.items.Defs.{Defs}
use Rattle.floyd_assert_trees.specs.declared.sep.Region.{Region}
use Rattle.floyd_assert_trees.specs.declared.sep.Sep.{Sep}
use Rattle.floyd_assert_trees.specs.declared.sep.Sep.TheVariants.{FieldAt, Padding, Valid, Anything, Predicate}
use Rattle.floyd_assert_trees.specs.declared.spec.SpecTable.{SpecTable}
use Rattle.floyd_assert_trees.specs.Meanings.{value_defs}
use Rattle.floyd_assert_changes.specs.Changed.{local_terms, part_terms, region_terms, step_terms, terms_in}
use Rattle.floyd_goal_formulas.specs.Fits.{Fits}
use Rattle.floyd_goal_forms.specs.Assertions.{AssertionFits, PartFits, PartsFit, PredicatesOf, RegionFits, StepFits, inner_scope}
use Rattle.floyd_goal_forms.specs.Terms.{FormulasFit, TermFits, TermsFit}
use Rattle.floyd_goal_meaning.specs.declared.linked.Linked.{Linked}
use Rattle.floyd_goal_meaning.specs.Links.{Has}
use Rattle.floyd_goal_meaning.specs.Programs.{defs_of}
use Rattle.floyd_goal_laws.proofs.Growing.{fits_program, term_fits_program}
use Rattle.floyd_simplifying_laws.specs.Laws.{AreFit, IsTerm}

both_all : {A : Type 0} (P : A → Type 0) (xs ys : List A) → AllByRecursion P xs → AllByRecursion P ys → AllByRecursion P (xs ++ ys)
both_all P [] ys h k = k
both_all P (x ∷ xs) ys h k = (h.0, both_all P xs ys h.1 k)

module _ (defs : Defs) (scope : Scope) where
  abbrev Is : Plain → Type 0
  Is t = IsTerm (value_defs defs) scope t

  of_sorts : (sorts : List Sort) (ts : List Plain) → TermsFit defs scope sorts ts → AllByRecursion Is ts
  of_sorts [] [] h = tt
  of_sorts [] (t ∷ ts) h = absurd h
  of_sorts (s ∷ sorts) [] h = absurd h
  of_sorts (s ∷ sorts) (t ∷ ts) h = ((s, h.0.fits), of_sorts sorts ts h.1)

  of_sizes : (ts : List Plain) → AllByRecursion (TermFits defs scope Z) ts → AllByRecursion Is ts
  of_sizes [] h = tt
  of_sizes (t ∷ ts) h = ((Z, h.0.fits), of_sizes ts h.1)

  of_steps : (path : List PathStep) → AllByRecursion (StepFits defs scope) path → AllByRecursion Is (flat_map step_terms path)
  of_steps [] h = tt
  of_steps (Field x ∷ path) h = of_steps path h.1
  of_steps (Subscript t ∷ path) h = ((Z, h.0.fits), of_steps path h.1)

  of_region : (region : Region) → RegionFits defs scope region → AllByRecursion Is (region_terms region)
  of_region region h = (
    (Z, h.share.fits),
    both_all Is region.ty.sizes (flat_map step_terms region.path ++ region.root ∷ []) (of_sizes region.ty.sizes h.type.sizes.sizes)
        (both_all Is (flat_map step_terms region.path) (region.root ∷ []) (of_steps region.path h.steps) ((Val, h.root.fits), tt)),
  )

  of_part : (p : Sep) → PartFits defs scope (PredicatesOf defs scope) p → AllByRecursion Is (part_terms p)
  of_part (FieldAt region value) h = both_all Is (region_terms region) (value ∷ []) (of_region region h.region) ((h.sort, h.term.fits), tt)
  of_part (Padding region) h = of_region region h.0
  of_part (Valid t) h = ((Val, h.fits), tt)
  of_part Anything h = tt
  of_part (Predicate name terms) h = of_sorts (map (λ (b : Binder). b.sort) h.0.arguments) terms h.2

  of_parts : (ps : List Sep) → PartsFit defs scope (PredicatesOf defs scope) ps → AllByRecursion Is (flat_map part_terms ps)
  of_parts [] h = tt
  of_parts (p ∷ ps) h = both_all Is (part_terms p) (flat_map part_terms ps) (of_part p h.0) (of_parts ps h.1)

  of_locals : (ls : List Local) → AllByRecursion (λ (l : Local). TermFits defs scope Val l.term) ls → AllByRecursion Is (local_terms ls)
  of_locals [] h = tt
  of_locals (l ∷ ls) h = ((Val, h.0.fits), of_locals ls h.1)

module _ (L : Linked) (defs : Defs) (specs : SpecTable) (has : Has L defs specs) (scope : Scope) where
  props_there : (fs : List PlainFormula) → FormulasFit defs specs scope fs → AllByRecursion (Fits (defs_of L) scope) fs
  props_there [] h = tt
  props_there (f ∷ fs) h = (fits_program L defs specs has scope f h.0.fits, props_there fs h.1)

  terms_there : (ts : List Plain) → AllByRecursion (IsTerm (value_defs defs) scope) ts → AllByRecursion (IsTerm (defs_of L) scope) ts
  terms_there [] h = tt
  terms_there (t ∷ ts) h = ((h.0.0, term_fits_program L defs specs has scope h.0.0 t h.0.1), terms_there ts h.1)

pub fit_there : (L : Linked) (defs : Defs) (specs : SpecTable) → Has L defs specs → (scope : Scope) (a : Assertion) → AssertionFits defs specs scope a → AreFit (defs_of L) scope a
fit_there L defs specs has scope a h =
    let inner = inner_scope a scope in
    record {
      existentials = h.existentials;
      props = props_there L defs specs has inner a.props h.props;
      terms = terms_there L defs specs has inner (terms_in a) (both_all (IsTerm (value_defs defs) inner) (local_terms a.locals) (flat_map part_terms a.parts) (of_locals defs inner a.locals h.locals) (of_parts defs inner a.parts h.parts));
    }
