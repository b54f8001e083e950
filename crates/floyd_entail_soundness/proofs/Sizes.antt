-- Sizes of types, written along paths, are well formed.
use Rattle.std.proofs.Common.{◌≡◌, true, ℤ, List, [], ◌∷◌, map, Option, Some, None, Result, Ok, sym, ap, subst}
use Rattle.std.specs.List.{AllByRecursion}
use Rattle.std.proofs.lemmas.Option.{same_Some}
use Rattle.floyd_text.specs.declared.refusal.No.{No}
use Rattle.floyd_ctypes.specs.Structs.{Structs}
use Rattle.floyd_tree_sorts.specs.declared.connectives.FormulaHead.TheVariants.{AtMost}
use Rattle.floyd_tree_sorts.specs.declared.operators.Operator.TheVariants.{Mul}
use Rattle.floyd_tree_sorts.specs.declared.shape.Shape.{Shape, more_of-Shape, end_of-Shape}
use Rattle.floyd_tree_sorts.specs.declared.shape.Shape as s
use Rattle.floyd_tree_sorts.specs.declared.sorts.Sort.{Z}
use Rattle.floyd_tree.specs.declared.paths.PathStep.{PathStep}
use Rattle.floyd_tree.specs.declared.paths.PathStep.TheVariants.{Field as FieldStep, Subscript}
use Rattle.floyd_tree.specs.Formulas.{takes_all}
use Rattle.floyd_tree.specs.Plain.{Plain}
use Rattle.floyd_tree.specs.Types.{SizedType}
use Rattle.floyd_tree.specs.WellSorted.{sort_of, with_first}
use Rattle.floyd_tree_values.specs.Means.{Defs}
use Rattle.floyd_tree_values.specs.Rules.{Calls, CallsOf, EachAllowed, Scope}
use Rattle.floyd_assert_cells.specs.Types.{sizes_of}
use Rattle.floyd_fieldpath.specs.Addresses.{size_term}
use Rattle.floyd_fieldpath.specs.Nested.{literal, type_after, type_at}
use Rattle.floyd_fieldpath.specs.Sums.{literal_in, literal_or, of_both, small, times, two}
use Rattle.floyd_fieldpath_laws.proofs.Meanings.{on_ok_is, written_is}
use Rattle.floyd_fieldpath_laws.proofs.TypeSorts.{is_element, is_field, step_some}
use Rattle.floyd_goal_formulas.specs.Fits.{Fits}
use Rattle.floyd_goal_parts.specs.Writing.{at_most}
use Rattle.std.specs.Prelude.{◌&&◌, ◌*ℤ◌}
use Rattle.floyd_entail_soundness.proofs.Placing.{same_Ok}

module _ (structs : Structs) (scope : Scope) (calls : Calls) where
  abbrev Good : Plain → Type 0
  Good t = EachAllowed structs scope calls t

  -- ---- along a path

  literals_good : (zs : List ℤ) → AllByRecursion Good (map literal zs)
  literals_good [] = tt
  literals_good (z ∷ zs) = ((tt, tt), literals_good zs)

  after_good : (t u : SizedType) (step : PathStep) → AllByRecursion Good t.sizes → type_after structs t step ≡ Some u → AllByRecursion Good u.sizes
  after_good t u (FieldStep x) h e =
      let f = is_field structs t.shape x u e in
      subst (λ (v : SizedType). AllByRecursion Good v.sizes) (sym f.type) (literals_good (sizes_of f.field.ty))
  after_good t u (Subscript i) h e =
      let k = is_element t.shape t.sizes u e in
      let all : AllByRecursion Good (k.count ∷ u.sizes) = subst (AllByRecursion Good) k.sizes_are h in
      all.1

  pub path_good : (path : List PathStep) (t u : SizedType) → AllByRecursion Good t.sizes → type_at structs t path ≡ Some u → AllByRecursion Good u.sizes
  path_good [] t u h e = subst (λ (v : SizedType). AllByRecursion Good v.sizes) (same_Some {A = SizedType} t u e) h
  path_good (step ∷ path) t u h e =
      let a = step_some structs path (type_after structs t step) u e in
      path_good path a.0 u (after_good t a.0 step h a.1) a.2

  -- ---- a size

  product_good : (o : Option ℤ) (a b c : Plain) → Good a → Good b → literal_or o (two Mul a b) ≡ Ok c → Good c
  product_good None a b c h k e = subst Good (written_is (two Mul a b) c e) (tt, (h, (k, tt)))
  product_good (Some z) a b c h k e = subst Good (same_Ok {A = Plain} (literal z) c e) (tt, tt)

  literal_good : (z : ℤ) (c : Plain) → ◌≡◌ {A = Result Plain No} (Ok (literal z)) (Ok c) → Good c
  literal_good z c e = subst Good (same_Ok {A = Plain} (literal z) c e) (tt, tt)

  pub size_good : (shape : Shape) (sizes : List Plain) (c : Plain) → AllByRecursion Good sizes → size_term structs shape sizes ≡ Ok c → Good c
  size_good (s.Array' p (more_of-Shape element end_of-Shape)) (n ∷ sizes) c h e =
      let q = on_ok_is (size_term structs element sizes) (λ bytes. times bytes n) c e in
      product_good (small (of_both (λ x y. x *ℤ y) (literal_in q.0) (literal_in n))) q.0 n c (size_good element sizes q.0 h.1 q.1) h.0 q.2
  size_good (s.Array' p (more_of-Shape element end_of-Shape)) [] c h e = literal_good _ c e
  size_good s.Void sizes c h e = literal_good _ c e
  size_good (s.Int kind) sizes c h e = literal_good _ c e
  size_good (s.Pointer' p to) sizes c h e = literal_good _ c e
  size_good (s.Struct tag) sizes c h e = literal_good _ c e
  size_good (s.Function' q ps p r) sizes c h e = literal_good _ c e

-- ---- a bound

-- a number is well formed as one that is at least another
pub bound_fits : (defs : Defs) (scope : Scope) (z : ℤ) (t : Plain) → sort_of t ≡ Some Z → EachAllowed defs.structs scope (CallsOf defs.funs) t → Fits defs scope (at_most (literal z) t)
bound_fits defs scope z t e h = record {
  sorted = ap (λ o. takes_all AtMost (with_first (Some Z) (with_first o (Some []))) 0 && true) e;
  allowed = (((tt, tt), (h, tt)), tt);
}
