-- The item of a well-formed value along a well-formed path is well formed.
use Rattle.std.proofs.Common.{◌≡◌, ℕ, zero, suc, Bool, true, false, List, [], ◌∷◌, Option, Some, None, Result, Ok, Err, slice_get, is_some, refl, subst, bytes_eq, if◌then◌else◌}
use Rattle.std.specs.List.{AllByRecursion}
use Rattle.floyd_text.specs.declared.refusal.No.{No}
use Rattle.floyd_ctypes.specs.declared.field.Field.{Field}
use Rattle.floyd_ctypes.specs.Structs.{fields_of}
use Rattle.floyd_tree_sorts.specs.declared.heads.Head.{Head}
use Rattle.floyd_tree_sorts.specs.declared.heads.Head.TheVariants as h
use Rattle.floyd_tree_sorts.specs.declared.operators.Operator.{Operator}
use Rattle.floyd_tree_sorts.specs.declared.operators.Operator.TheVariants.{Fst, Snd, Nth, Vint, Vlong, Vundef}
use Rattle.floyd_tree_sorts.specs.declared.shape.Shape.{Shape}
use Rattle.floyd_tree_sorts.specs.declared.shape.Shape as s
use Rattle.floyd_tree_sorts.specs.declared.sorts.Sort.{Sort, Z}
use Rattle.floyd_tree_sorts.specs.Rows.{is_scalar}
use Rattle.floyd_tree.specs.declared.paths.PathStep.{PathStep}
use Rattle.floyd_tree.specs.declared.paths.PathStep.TheVariants.{Field as FieldStep, Subscript}
use Rattle.floyd_tree.specs.Made.{fits}
use Rattle.floyd_tree.specs.Plain.{Plain, Plains, At, Done, More, head_of, listed, plains}
use Rattle.floyd_tree.specs.Types.{SizedType}
use Rattle.floyd_tree.specs.WellSorted.{sort_of}
use Rattle.floyd_tree_values.specs.Defaults.{value_sort}
use Rattle.floyd_tree_values.specs.Means.{Defs}
use Rattle.floyd_tree_values.specs.Rules.{AllAllowed, CallsOf, EachAllowed, Scope}
use Rattle.floyd_fieldpath.specs.Addresses.{on_type}
use Rattle.floyd_fieldpath.specs.DefaultTerms.{default_term}
use Rattle.floyd_fieldpath.specs.Nested.{type_after, type_at}
use Rattle.floyd_fieldpath.specs.Projections.{component, default_of, default_with, element, field_item, first_of, is_default, is_ints, is_longs, is_pair, item, item_at, kid_under, of_fields, of_list, one, or_written, project, second_of, value_at}
use Rattle.floyd_fieldpath.specs.Sums.{two}
use Rattle.floyd_fieldpath.specs.Written.{ill_sorted, on_ok, too_large, written}
use Rattle.floyd_symexpr_forms.specs.Laws.{StepIn}
use Rattle.floyd_symexpr_forms.proofs.Answers.{Gives, Good, chosen, on}
use Rattle.floyd_symexpr_forms.proofs.Places.{GoodStep, after_sized, on_sized}

module _ (defs : Defs) (scope : Scope) where
  abbrev A : Plain → Type 0
  A t = EachAllowed defs.structs scope (CallsOf defs.funs) t

  abbrev G : Plain → Type 0
  G t = Good defs scope Z t

  -- ---- terms

  written_allowed : (t : Plain) → A t → Gives A (written t)
  written_allowed t g = by (is_some (sort_of t)) (fits t)
    where
      by : (a b : Bool) → Gives A (if a then (if b then Ok t else Err too_large) else Err ill_sorted)
      by true true = g
      by true false = tt
      by false b = tt

  abbrev Allowed : Option Plain → Type 0
  Allowed None = Unit {0}
  Allowed (Some t) = A t

  kid_allowed : (kids : Plains) (n : ℕ) → AllAllowed defs.structs scope (CallsOf defs.funs) kids → Allowed (slice_get (listed kids) n)
  kid_allowed Done n g = tt
  kid_allowed (More t ts) zero g = g.0
  kid_allowed (More t ts) (suc n) g = kid_allowed ts n g.1

  under_allowed : (test : Head → Bool) (n : ℕ) (v : Plain) → A v → Allowed (kid_under test n v)
  under_allowed test n (At head kids) g = by (test head)
    where
      by : (b : Bool) → Allowed (if b then slice_get (listed kids) n else None)
      by true = kid_allowed kids n g.1
      by false = tt

  or_written_allowed : (o : Option Plain) (t : Plain) → Allowed o → A t → Gives A (or_written o t)
  or_written_allowed None t g k = written_allowed t k
  or_written_allowed (Some part) t g k = g

  first_allowed : (v : Plain) → A v → Gives A (first_of v)
  first_allowed v g = or_written_allowed (kid_under is_pair 0 v) (one Fst v) (under_allowed is_pair 0 v g) (tt, (g, tt))

  second_allowed : (v : Plain) → A v → Gives A (second_of v)
  second_allowed v g = or_written_allowed (kid_under is_pair 1 v) (one Snd v) (under_allowed is_pair 1 v g) (tt, (g, tt))

  sizes_allowed : (ts : List Plain) → AllByRecursion G ts → AllAllowed defs.structs scope (CallsOf defs.funs) (plains ts)
  sizes_allowed [] h = tt
  sizes_allowed (t ∷ ts) h = (h.0.allowed, sizes_allowed ts h.1)

  default_allowed : (t : SizedType) → AllByRecursion G t.sizes → Gives A (default_of defs.structs t)
  default_allowed t w = by (value_sort defs.structs t.shape) refl
    where
      term : (sort : Sort) (b : Bool) → value_sort defs.structs t.shape ≡ Some sort → A (if b then At (h.Operator Vundef) Done else At (h.Default t.shape sort) (plains t.sizes))
      term sort true e = (tt, tt)
      term sort false e = (e, sizes_allowed t.sizes w)

      by : (o : Option Sort) → value_sort defs.structs t.shape ≡ o → Gives A (default_with o t)
      by None e = tt
      by (Some sort) e = written_allowed (default_term t sort) (term sort (is_scalar t.shape) e)

  -- ---- items

  value_allowed : (operator : Operator) (i l : Plain) → A i → A l → Gives A (value_at operator i l)
  value_allowed operator i l g k = on A A (written (two Nth i l)) (λ n. written (one operator n)) (written_allowed (two Nth i l) (tt, (g, (k, tt)))) (λ n x. written_allowed (one operator n) (tt, (x, tt)))

  list_allowed : (o p : Option Plain) (i v : Plain) → Allowed o → Allowed p → A i → A v → Gives A (of_list o p i v)
  list_allowed (Some l) p i v g k a b = value_allowed Vint i l a g
  list_allowed None (Some l) i v g k a b = value_allowed Vlong i l a k
  list_allowed None None i v g k a b = written_allowed (two Nth i v) (tt, (a, (b, tt)))

  element_allowed : (after : SizedType) (i v : Plain) → AllByRecursion G after.sizes → A i → A v → Gives A (element defs.structs after i v)
  element_allowed after i v w a b =
      chosen A (is_default (head_of v)) (default_of defs.structs after) (of_list (kid_under is_ints 0 v) (kid_under is_longs 0 v) i v) (default_allowed after w)
      (list_allowed (kid_under is_ints 0 v) (kid_under is_longs 0 v) i v (under_allowed is_ints 0 v b) (under_allowed is_longs 0 v b) a b)

  component_allowed : (after : SizedType) (fields : List Field) (x : List ℕ) (v : Plain) → AllByRecursion G after.sizes → A v → Gives A (component defs.structs after fields x v)
  component_allowed after [] x v w g = tt
  component_allowed after (f ∷ []) x v w g = g
  component_allowed after (f ∷ k ∷ more) x v w g =
      let rest = on_ok (second_of v) (component defs.structs after (k ∷ more) x) in
      chosen A (is_default (head_of v)) (default_of defs.structs after) (if bytes_eq x f.name then first_of v else rest) (default_allowed after w)
      (chosen A (bytes_eq x f.name) (first_of v) rest (first_allowed v g)
      (on A A (second_of v) (component defs.structs after (k ∷ more) x) (second_allowed v g) (λ u a. component_allowed after (k ∷ more) x u w a)))

  field_allowed : (shape : Shape) (after : SizedType) (x : List ℕ) (v : Plain) → AllByRecursion G after.sizes → A v → Gives A (field_item defs.structs shape after x v)
  field_allowed (s.Struct tag) after x v w g =
      chosen A (is_default (head_of v)) (default_of defs.structs after) (of_fields (fields_of defs.structs tag) (λ fields. component defs.structs after fields x v)) (default_allowed after w) (by (fields_of defs.structs tag))
    where
      by : (o : Option (List Field)) → Gives A (of_fields o (λ fields. component defs.structs after fields x v))
      by None = tt
      by (Some fields) = component_allowed after fields x v w g
  field_allowed shape after x v w g = tt

  item_allowed : (t after : SizedType) (step : PathStep) (v : Plain) → AllByRecursion G after.sizes → GoodStep defs scope step → A v → Gives A (item defs.structs t after step v)
  item_allowed t after (FieldStep x) v w p g = field_allowed t.shape after x v w g
  item_allowed t after (Subscript i) v w p g = element_allowed after i v w p.allowed g

  along_allowed : (t : SizedType) (path : List PathStep) (v : Plain) → AllByRecursion G t.sizes → AllByRecursion (GoodStep defs scope) path → A v → Gives A (item_at defs.structs t path v)
  along_allowed t [] v w p g = g
  along_allowed t (step ∷ path) v w p g =
      on_sized defs scope A (type_after defs.structs t step) (λ after. on_ok (item defs.structs t after step v) (item_at defs.structs after path)) (after_sized defs scope t step w)
      (λ after k. on A A (item defs.structs t after step v) (item_at defs.structs after path) (item_allowed t after step v k p.0 g) (λ u a. along_allowed after path u k p.1 a))

  typed_or_not : (o : Option SizedType) (r : Result Plain No) → Gives A r → Gives A (on_type o (λ u. r))
  typed_or_not None r h = tt
  typed_or_not (Some u) r h = h

  project_allowed : (t : SizedType) (path : List PathStep) (v : Plain) → AllByRecursion G t.sizes → AllByRecursion (GoodStep defs scope) path → A v → Gives A (project defs.structs t path v)
  project_allowed t path v w p g = typed_or_not (type_at defs.structs t path) (item_at defs.structs t path v) (along_allowed t path v w p g)

  given_in : (r : Result Plain No) (u : Plain) → Gives A r → r ≡ Ok u → A u
  given_in (Ok a) u h e = subst A (let x = e in cc) h
  given_in (Err why) u h e = absurd cc

  steps_in : (path : List PathStep) → AllByRecursion (StepIn defs scope) path → AllByRecursion (GoodStep defs scope) path
  steps_in [] h = tt
  steps_in (FieldStep x ∷ path) h = (tt, steps_in path h.1)
  steps_in (Subscript i ∷ path) h = (h.0, steps_in path h.1)

  pub item_fits : (t : SizedType) (path : List PathStep) (v u : Plain) → AllByRecursion G t.sizes → AllByRecursion (StepIn defs scope) path → A v → project defs.structs t path v ≡ Ok u → A u
  item_fits t path v u w p g e = given_in (project defs.structs t path v) u (project_allowed t path v w (steps_in path p) g) e
