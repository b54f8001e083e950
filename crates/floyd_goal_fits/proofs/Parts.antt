-- In what is well formed in a scope, changes that suit the scope put terms of the right sorts.
use Rattle.std.proofs.Common.{List, [], ◌∷◌, ◌++◌, map, Option, Some, None}
use Rattle.std.specs.List.{AllByRecursion, flat_map}
use Rattle.floyd_ctypes.specs.Structs.{Structs}
use Rattle.floyd_ctypes.specs.declared.ctype.CType.{CType, Void}
use Rattle.floyd_tree_sorts.specs.declared.heads.Head.TheVariants.{Variable}
use Rattle.floyd_tree_sorts.specs.declared.sorts.Sort.{Sort, Z, Val}
use Rattle.floyd_tree.specs.declared.paths.PathStep.{PathStep}
use Rattle.floyd_tree.specs.declared.paths.PathStep.TheVariants.{Field, Subscript}
use Rattle.floyd_tree.specs.Formulas.{PlainFormula, formulas}
use Rattle.floyd_tree.specs.Plain.{Plain, Plains, At, Done, More, plains}
use Rattle.floyd_tree_values.specs.Rules.{AllAllowed, Calls, CallsOf, EachAllowed, Scope}
use Rattle.floyd_truth.specs.Capture.{Changes}
use Rattle.floyd_truth.specs.Replace.{AllSortsAgree, FormulasSortsAgree, SortsAgree}
use Rattle.floyd_assert_trees.specs.declared.assertion.Assertion.{Assertion}
use Rattle.floyd_assert_trees.specs.declared.assertion.Local.{Local}
use Rattle.floyd_assert_trees.specs.declared.binder.Binder.{Binder}
use Rattle.floyd_assert_trees.specs.declared.items.Defs.{Defs}
use Rattle.floyd_assert_trees.specs.declared.sep.Region.{Region}
use Rattle.floyd_assert_trees.specs.declared.sep.Sep.{Sep}
use Rattle.floyd_assert_trees.specs.declared.sep.Sep.TheVariants.{FieldAt, Padding, Valid, Anything, Predicate}
use Rattle.floyd_assert_trees.specs.declared.spec.SpecTable.{SpecTable}
use Rattle.floyd_assert_trees.specs.Meanings.{value_defs}
use Rattle.floyd_assert_changes.specs.Changed.{AssertionSortsAgree, inside, local_terms, part_terms, region_terms, step_terms}
use Rattle.floyd_goal_changes.specs.Changed.{covering}
use Rattle.floyd_goal_forms.specs.Assertions.{AssertionFits, PartFits, PartsFit, PredicatesOf, RegionFits, StepFits, inner_scope}
use Rattle.floyd_goal_forms.specs.Goals.{ResultFits}
use Rattle.floyd_goal_forms.specs.Terms.{FormulasFit, TermFits, TermsFit}
use Rattle.floyd_pure_formulas.proofs.Substituting.{Suiting, formula_agrees}
use Rattle.floyd_goal_fits.proofs.Suiting.{suits_inside}

module _ (structs : Structs) (calls : Calls) (changes : Changes) (scope : Scope) (h : Suiting changes scope) where
  mutual
    term_agrees : (t : Plain) → EachAllowed structs scope calls t → SortsAgree changes t
    term_agrees (At (Variable x s) ts) a = (h x s a.0, terms_agree ts a.1)
    term_agrees (At head ts) a = (tt, terms_agree ts a.1)

    terms_agree : (ts : Plains) → AllAllowed structs scope calls ts → AllSortsAgree changes ts
    terms_agree Done a = tt
    terms_agree (More t ts) a = (term_agrees t a.0, terms_agree ts a.1)

append_agrees : (changes : Changes) (xs ys : List Plain) → AllSortsAgree changes (plains xs) → AllSortsAgree changes (plains ys) → AllSortsAgree changes (plains (xs ++ ys))
append_agrees changes [] ys h k = k
append_agrees changes (x ∷ xs) ys h k = (h.0, append_agrees changes xs ys h.1 k)

module _ (defs : Defs) (scope : Scope) (changes : Changes) (h : Suiting changes scope) where
  abbrev Agree : List Plain → Type 0
  Agree ts = AllSortsAgree changes (plains ts)

  fits_agree : (s : Sort) (t : Plain) → TermFits defs scope s t → SortsAgree changes t
  fits_agree s t f = term_agrees defs.structs (CallsOf (value_defs defs).funs) changes scope h t f.fits.allowed

  all_agree : (sorts : List Sort) (ts : List Plain) → TermsFit defs scope sorts ts → Agree ts
  all_agree [] [] f = tt
  all_agree [] (t ∷ ts) f = absurd f
  all_agree (s ∷ sorts) [] f = absurd f
  all_agree (s ∷ sorts) (t ∷ ts) f = (fits_agree s t f.0, all_agree sorts ts f.1)

  sizes_agree : (ts : List Plain) → AllByRecursion (TermFits defs scope Z) ts → Agree ts
  sizes_agree [] f = tt
  sizes_agree (t ∷ ts) f = (fits_agree Z t f.0, sizes_agree ts f.1)

  steps_agree : (path : List PathStep) → AllByRecursion (StepFits defs scope) path → Agree (flat_map step_terms path)
  steps_agree [] f = tt
  steps_agree (Field x ∷ path) f = steps_agree path f.1
  steps_agree (Subscript t ∷ path) f = (fits_agree Z t f.0, steps_agree path f.1)

  region_agrees : (r : Region) → RegionFits defs scope r → Agree (region_terms r)
  region_agrees r f = (
    fits_agree Z r.share f.share,
    append_agrees changes r.ty.sizes (flat_map step_terms r.path ++ r.root ∷ []) (sizes_agree r.ty.sizes f.type.sizes.sizes)
        (append_agrees changes (flat_map step_terms r.path) (r.root ∷ []) (steps_agree r.path f.steps) (fits_agree Val r.root f.root, tt)),
  )

  part_agrees : (p : Sep) → PartFits defs scope (PredicatesOf defs scope) p → Agree (part_terms p)
  part_agrees (FieldAt r value) f = append_agrees changes (region_terms r) (value ∷ []) (region_agrees r f.region) (fits_agree f.sort value f.term, tt)
  part_agrees (Padding r) f = region_agrees r f.0
  part_agrees (Valid t) f = (fits_agree Val t f, tt)
  part_agrees Anything f = tt
  part_agrees (Predicate name terms) f = all_agree (map (λ (b : Binder). b.sort) f.0.arguments) terms f.2

  parts_agree : (ps : List Sep) → PartsFit defs scope (PredicatesOf defs scope) ps → Agree (flat_map part_terms ps)
  parts_agree [] f = tt
  parts_agree (p ∷ ps) f = append_agrees changes (part_terms p) (flat_map part_terms ps) (part_agrees p f.0) (parts_agree ps f.1)

  locals_agree : (ls : List Local) → AllByRecursion (λ (l : Local). TermFits defs scope Val l.term) ls → Agree (local_terms ls)
  locals_agree [] f = tt
  locals_agree (l ∷ ls) f = (fits_agree Val l.term f.0, locals_agree ls f.1)

  pub props_agree : (specs : SpecTable) (fs : List PlainFormula) → FormulasFit defs specs scope fs → FormulasSortsAgree changes (formulas fs)
  props_agree specs [] f = tt
  props_agree specs (p ∷ fs) f = (formula_agrees (value_defs defs) changes scope h p f.0.fits.allowed, props_agree specs fs f.1)

  pub memory_agrees : (ls : List Local) (ps : List Sep) → AllByRecursion (λ (l : Local). TermFits defs scope Val l.term) ls → PartsFit defs scope (PredicatesOf defs scope) ps →
      Agree (local_terms ls ++ flat_map part_terms ps)
  memory_agrees ls ps f g = append_agrees changes (local_terms ls) (flat_map part_terms ps) (locals_agree ls f) (parts_agree ps g)

  value_agrees : (result : CType) (t : Plain) → ResultFits defs scope result (Some t) → SortsAgree changes t
  value_agrees Void t f = absurd f
  value_agrees result t f = fits_agree Val t f

  -- RETURN's term stands before the parts
  pub return_agrees : (ls : List Local) (ps : List Sep) (result : CType) (t : Plain) → AllByRecursion (λ (l : Local). TermFits defs scope Val l.term) ls → PartsFit defs scope (PredicatesOf defs scope) ps → ResultFits defs scope result (Some t) →
      Agree (local_terms ls ++ t ∷ flat_map part_terms ps)
  return_agrees ls ps result t f g k = append_agrees changes (local_terms ls) (t ∷ flat_map part_terms ps) (locals_agree ls f) (value_agrees result t k, parts_agree ps g)

module _ (defs : Defs) (specs : SpecTable) (scope : Scope) (changes : Changes) (h : Suiting changes scope) where
  pub assertion_agrees : (a : Assertion) → AssertionFits defs specs scope a → AssertionSortsAgree changes a
  assertion_agrees a f =
      let i = suits_inside changes a scope h in
      (props_agree defs (inner_scope a scope) (inside changes a) i specs a.props f.props, memory_agrees defs (inner_scope a scope) (inside changes a) i a.locals a.parts f.locals f.parts)

  pub post_agrees : (post : Assertion) (result : CType) (value : Option Plain) → AssertionFits defs specs scope post → ResultFits defs (inner_scope post scope) result value → AssertionSortsAgree changes (covering post value)
  post_agrees post result None f k = assertion_agrees post f
  post_agrees post result (Some t) f k =
      let i = suits_inside changes (covering post (Some t)) scope h in
      let ch = inside changes (covering post (Some t)) in
      (props_agree defs (inner_scope post scope) ch i specs post.props f.props, return_agrees defs (inner_scope post scope) ch i post.locals post.parts result t f.locals f.parts k)
