-- The item of a fine value along a fine path is fine, and so is the value with another fine item there: each node is allowed,
-- and each name of the file is known.
use Rattle.std.proofs.Common.{◌≡◌, ℕ, zero, suc, ℤ, Bool, true, false, List, [], ◌∷◌, map, Option, Some, None, Result, Ok, Err, slice_get, is_some, refl, ap, subst, bytes_eq, if◌then◌else◌}
use Rattle.std.specs.Prelude.{option_and_then}
use Rattle.std.specs.List.{AllByRecursion}
use Rattle.floyd_text.specs.declared.refusal.No.{No}
use Rattle.floyd_ctypes.specs.declared.field.Field.{Field}
use Rattle.floyd_ctypes.specs.Structs.{fields_of}
use Rattle.floyd_tree_sorts.specs.declared.heads.Head.{Head}
use Rattle.floyd_tree_sorts.specs.declared.heads.Head.TheVariants as h
use Rattle.floyd_tree_sorts.specs.declared.operators.Operator.{Operator}
use Rattle.floyd_tree_sorts.specs.declared.operators.Operator.TheVariants.{Fst, Snd, Nth, Pair, Upd, Vint, Vints, Vlong, Vlongs, Vundef}
use Rattle.floyd_tree_sorts.specs.declared.shape.Shape.{Shape}
use Rattle.floyd_tree_sorts.specs.declared.shape.Shape as s
use Rattle.floyd_tree_sorts.specs.declared.sorts.Sort.{Sort}
use Rattle.floyd_tree_sorts.specs.Rows.{is_scalar}
use Rattle.floyd_tree.specs.declared.paths.PathStep.{PathStep}
use Rattle.floyd_tree.specs.declared.paths.PathStep.TheVariants.{Field as FieldStep, Subscript}
use Rattle.floyd_tree.specs.Made.{fits}
use Rattle.floyd_tree.specs.Plain.{Plain, Plains, At, Done, More, head_of, listed, plains}
use Rattle.floyd_tree.specs.Types.{SizedType}
use Rattle.floyd_tree.specs.WellSorted.{sort_of}
use Rattle.floyd_tree_values.specs.Defaults.{value_sort}
use Rattle.floyd_tree_values.specs.Rules.{AllAllowed, CallsOf, Scope}
use Rattle.floyd_assert_cells.specs.Types.{sizes_of}
use Rattle.floyd_assert_trees.specs.declared.items.Defs.{Defs}
use Rattle.floyd_assert_trees.specs.Meanings.{value_defs}
use Rattle.floyd_fieldpath.specs.Addresses.{on_type}
use Rattle.floyd_fieldpath.specs.DefaultTerms.{default_term}
use Rattle.floyd_fieldpath.specs.Nested.{literal, sized_type, type_after, type_at}
use Rattle.floyd_fieldpath.specs.Projections.{component, default_of, default_with, element, field_item, first_of, is_default, is_ints, is_longs, is_pair, item, item_at, kid_under, of_fields, of_list, one, or_written, project, second_of, value_at}
use Rattle.floyd_fieldpath.specs.Sums.{two}
use Rattle.floyd_fieldpath.specs.Updates.{both, default_and, default_of_field, fields_default, first_value, is_int, is_long, list_with, numbers_with, other_values, others_written, pair, three, update, updated_at, with_component, with_element, with_field, with_item}
use Rattle.floyd_fieldpath.specs.Written.{ill_sorted, on_ok, too_large, written}
use Rattle.floyd_formed_places.proofs.Places.{AreFine, Fine, list_fine, literal_fine, path_fine}
use Rattle.floyd_goal_forms.specs.Terms.{AllKnown}
use Rattle.floyd_symexpr_forms.proofs.Answers.{Gives, chosen, on}

module _ (defs : Defs) (scope : Scope) where
  abbrev F : Plain → Type 0
  F t = Fine defs scope t

  abbrev S : SizedType → Type 0
  S t = AreFine defs scope t.sizes

  -- ---- terms

  written_fine : (t : Plain) → F t → Gives F (written t)
  written_fine t g = by (is_some (sort_of t)) (fits t)
    where
      by : (a b : Bool) → Gives F (if a then (if b then Ok t else Err too_large) else Err ill_sorted)
      by true true = g
      by true false = tt
      by false b = tt

  one_fine : (operator : Operator) (a : Plain) → F a → F (one operator a)
  one_fine operator a g = ((tt, (g.0, tt)), (tt, (g.1, tt)))

  two_fine : (operator : Operator) (a b : Plain) → F a → F b → F (two operator a b)
  two_fine operator a b g k = ((tt, (g.0, (k.0, tt))), (tt, (g.1, (k.1, tt))))

  three_fine : (operator : Operator) (a b c : Plain) → F a → F b → F c → F (three operator a b c)
  three_fine operator a b c g k l = ((tt, (g.0, (k.0, (l.0, tt)))), (tt, (g.1, (k.1, (l.1, tt)))))

  abbrev Maybe : Option Plain → Type 0
  Maybe None = Unit {0}
  Maybe (Some t) = F t

  kid_fine : (kids : Plains) (n : ℕ) → AllAllowed defs.structs scope (CallsOf (value_defs defs).funs) kids → AllKnown defs kids → Maybe (slice_get (listed kids) n)
  kid_fine Done n g k = tt
  kid_fine (More t ts) zero g k = (g.0, k.0)
  kid_fine (More t ts) (suc n) g k = kid_fine ts n g.1 k.1

  under_fine : (test : Head → Bool) (n : ℕ) (v : Plain) → F v → Maybe (kid_under test n v)
  under_fine test n (At head kids) g = by (test head)
    where
      by : (b : Bool) → Maybe (if b then slice_get (listed kids) n else None)
      by true = kid_fine kids n g.0.1 g.1.1
      by false = tt

  or_written_fine : (o : Option Plain) (t : Plain) → Maybe o → F t → Gives F (or_written o t)
  or_written_fine None t g k = written_fine t k
  or_written_fine (Some part) t g k = g

  first_fine : (v : Plain) → F v → Gives F (first_of v)
  first_fine v g = or_written_fine (kid_under is_pair 0 v) (one Fst v) (under_fine is_pair 0 v g) (one_fine Fst v g)

  second_fine : (v : Plain) → F v → Gives F (second_of v)
  second_fine v g = or_written_fine (kid_under is_pair 1 v) (one Snd v) (under_fine is_pair 1 v g) (one_fine Snd v g)

  default_fine : (t : SizedType) → S t → Gives F (default_of defs.structs t)
  default_fine t w = by (value_sort defs.structs t.shape) refl
    where
      term : (sort : Sort) (b : Bool) → value_sort defs.structs t.shape ≡ Some sort → F (if b then At (h.Operator Vundef) Done else At (h.Default t.shape sort) (plains t.sizes))
      term sort true e = ((tt, tt), (tt, tt))
      term sort false e = let all = list_fine defs scope t.sizes w in ((e, all.0), (tt, all.1))

      by : (o : Option Sort) → value_sort defs.structs t.shape ≡ o → Gives F (default_with o t)
      by None e = tt
      by (Some sort) e = written_fine (default_term t sort) (term sort (is_scalar t.shape) e)

  -- ---- types

  after_fine : (t u : SizedType) (step : PathStep) → S t → type_after defs.structs t step ≡ Some u → S u
  after_fine t u step w e = path_fine defs scope (step ∷ []) t u w (ap (λ (o : Option SizedType). option_and_then (λ u. type_at defs.structs u []) o) e)

  -- what goes on with the type after a step
  on_after : (t : SizedType) (step : PathStep) (f : SizedType → Result Plain No) → S t → ((u : SizedType) → S u → Gives F (f u)) → Gives F (on_type (type_after defs.structs t step) f)
  on_after t step f w k = by (type_after defs.structs t step) refl
    where
      by : (o : Option SizedType) → type_after defs.structs t step ≡ o → Gives F (on_type o f)
      by None e = tt
      by (Some u) e = k u (after_fine t u step w e)

  typed_or_not : (o : Option SizedType) (r : Result Plain No) → Gives F r → Gives F (on_type o (λ u. r))
  typed_or_not None r g = tt
  typed_or_not (Some u) r g = g

  -- ---- items

  abbrev pub StepFine : PathStep → Type 0
  StepFine (FieldStep x) = Unit {0}
  StepFine (Subscript i) = F i

  value_fine : (operator : Operator) (i l : Plain) → F i → F l → Gives F (value_at operator i l)
  value_fine operator i l g k = on F F (written (two Nth i l)) (λ n. written (one operator n)) (written_fine (two Nth i l) (two_fine Nth i l g k)) (λ n x. written_fine (one operator n) (one_fine operator n x))

  of_list_fine : (o p : Option Plain) (i v : Plain) → Maybe o → Maybe p → F i → F v → Gives F (of_list o p i v)
  of_list_fine (Some l) p i v g k a b = value_fine Vint i l a g
  of_list_fine None (Some l) i v g k a b = value_fine Vlong i l a k
  of_list_fine None None i v g k a b = written_fine (two Nth i v) (two_fine Nth i v a b)

  element_fine : (after : SizedType) (i v : Plain) → S after → F i → F v → Gives F (element defs.structs after i v)
  element_fine after i v w a b =
      chosen F (is_default (head_of v)) (default_of defs.structs after) (of_list (kid_under is_ints 0 v) (kid_under is_longs 0 v) i v) (default_fine after w)
      (of_list_fine (kid_under is_ints 0 v) (kid_under is_longs 0 v) i v (under_fine is_ints 0 v b) (under_fine is_longs 0 v b) a b)

  component_fine : (after : SizedType) (fields : List Field) (x : List ℕ) (v : Plain) → S after → F v → Gives F (component defs.structs after fields x v)
  component_fine after [] x v w g = tt
  component_fine after (f ∷ []) x v w g = g
  component_fine after (f ∷ k ∷ more) x v w g =
      let rest = on_ok (second_of v) (component defs.structs after (k ∷ more) x) in
      chosen F (is_default (head_of v)) (default_of defs.structs after) (if bytes_eq x f.name then first_of v else rest) (default_fine after w)
      (chosen F (bytes_eq x f.name) (first_of v) rest (first_fine v g)
      (on F F (second_of v) (component defs.structs after (k ∷ more) x) (second_fine v g) (λ u a. component_fine after (k ∷ more) x u w a)))

  fields_then : (o : Option (List Field)) (f : List Field → Result Plain No) → ((fields : List Field) → Gives F (f fields)) → Gives F (of_fields o f)
  fields_then None f k = tt
  fields_then (Some fields) f k = k fields

  field_fine : (shape : Shape) (after : SizedType) (x : List ℕ) (v : Plain) → S after → F v → Gives F (field_item defs.structs shape after x v)
  field_fine (s.Struct tag) after x v w g =
      chosen F (is_default (head_of v)) (default_of defs.structs after) (of_fields (fields_of defs.structs tag) (λ fields. component defs.structs after fields x v)) (default_fine after w)
      (fields_then (fields_of defs.structs tag) (λ fields. component defs.structs after fields x v) (λ fields. component_fine after fields x v w g))
  field_fine shape after x v w g = tt

  item_fine : (t after : SizedType) (step : PathStep) (v : Plain) → S after → StepFine step → F v → Gives F (item defs.structs t after step v)
  item_fine t after (FieldStep x) v w p g = field_fine t.shape after x v w g
  item_fine t after (Subscript i) v w p g = element_fine after i v w p g

  along_fine : (t : SizedType) (path : List PathStep) (v : Plain) → S t → AllByRecursion StepFine path → F v → Gives F (item_at defs.structs t path v)
  along_fine t [] v w p g = g
  along_fine t (step ∷ path) v w p g =
      on_after t step (λ after. on_ok (item defs.structs t after step v) (item_at defs.structs after path)) w
      (λ after k. on F F (item defs.structs t after step v) (item_at defs.structs after path) (item_fine t after step v k p.0 g) (λ u a. along_fine after path u k p.1 a))

  given : (r : Result Plain No) (u : Plain) → Gives F r → r ≡ Ok u → F u
  given (Ok a) u g e = subst F (let x = e in cc) g
  given (Err why) u g e = absurd cc

  pub projected_fine : (t : SizedType) (path : List PathStep) (v u : Plain) → S t → AllByRecursion StepFine path → F v → project defs.structs t path v ≡ Ok u → F u
  projected_fine t path v u w p g e = given (project defs.structs t path v) u (typed_or_not (type_at defs.structs t path) (item_at defs.structs t path v) (along_fine t path v w p g)) e

  -- ---- updates

  abbrev Both : Option (Plain × Plain) → Type 0
  Both None = Unit {0}
  Both (Some p) = F p.0 × F p.1

  both_fine : (o p : Option Plain) → Maybe o → Maybe p → Both (both o p)
  both_fine (Some z) (Some l) g k = (g, k)
  both_fine (Some z) None g k = tt
  both_fine None p g k = tt

  numbers_fine : (values : Operator) (i : Plain) (p : Plain × Plain) → F i → F p.0 × F p.1 → Gives F (numbers_with values i p)
  numbers_fine values i p g k = on F F (written (three Upd i p.0 p.1)) (λ l. written (one values l)) (written_fine (three Upd i p.0 p.1) (three_fine Upd i p.0 p.1 g k.0 k.1)) (λ l x. written_fine (one values l) (one_fine values l x))

  list_with_fine : (o p : Option (Plain × Plain)) (i v u : Plain) → Both o → Both p → F i → F v → F u → Gives F (list_with o p i v u)
  list_with_fine (Some q) p i v u g k a b c = numbers_fine Vints i q a g
  list_with_fine None (Some q) i v u g k a b c = numbers_fine Vlongs i q a k
  list_with_fine None None i v u g k a b c = written_fine (three Upd i u v) (three_fine Upd i u v a c b)

  element_with_fine : (i v u : Plain) → F i → F v → F u → Gives F (with_element i v u)
  element_with_fine i v u a b c =
      list_with_fine (both (kid_under is_int 0 u) (kid_under is_ints 0 v)) (both (kid_under is_long 0 u) (kid_under is_longs 0 v)) i v u
      (both_fine (kid_under is_int 0 u) (kid_under is_ints 0 v) (under_fine is_int 0 u c) (under_fine is_ints 0 v b))
      (both_fine (kid_under is_long 0 u) (kid_under is_longs 0 v) (under_fine is_long 0 u c) (under_fine is_longs 0 v b)) a b c

  pair_fine : (a b : Plain) → F a → F b → Gives F (pair a b)
  pair_fine a b g k = written_fine (two Pair a b) (two_fine Pair a b g k)

  literals_fine : (zs : List ℤ) → AreFine defs scope (map literal zs)
  literals_fine [] = tt
  literals_fine (z ∷ zs) = (literal_fine defs scope z, literals_fine zs)

  of_field_fine : (f : Field) → Gives F (default_of_field defs.structs f)
  of_field_fine f = default_fine (sized_type f.ty) (literals_fine (sizes_of f.ty))

  default_and_fine : (f : Field) (rest : Plain) → F rest → Gives F (default_and defs.structs f rest)
  default_and_fine f rest g = on F F (default_of_field defs.structs f) (λ a. pair a rest) (of_field_fine f) (λ a x. pair_fine a rest x g)

  fields_default_fine : (fields : List Field) → Gives F (fields_default defs.structs fields)
  fields_default_fine [] = tt
  fields_default_fine (f ∷ []) = of_field_fine f
  fields_default_fine (f ∷ k ∷ more) = on F F (fields_default defs.structs (k ∷ more)) (default_and defs.structs f) (fields_default_fine (k ∷ more)) (λ rest x. default_and_fine f rest x)

  first_value_fine : (f : Field) (v : Plain) → F v → Gives F (first_value defs.structs f v)
  first_value_fine f v g = chosen F (is_default (head_of v)) (default_of_field defs.structs f) (first_of v) (of_field_fine f) (first_fine v g)

  other_values_fine : (v : Plain) → F v → Gives F (other_values v)
  other_values_fine v g = chosen F (is_default (head_of v)) (Ok v) (second_of v) g (second_fine v g)

  others_fine : (fields : List Field) (v : Plain) → F v → Gives F (others_written defs.structs fields v)
  others_fine fields v g = chosen F (is_default (head_of v)) (fields_default defs.structs fields) (second_of v) (fields_default_fine fields) (second_fine v g)

  component_with_fine : (fields : List Field) (x : List ℕ) (v u : Plain) → F v → F u → Gives F (with_component defs.structs fields x v u)
  component_with_fine [] x v u g k = tt
  component_with_fine (f ∷ []) x v u g k = k
  component_with_fine (f ∷ e ∷ more) x v u g k =
      let here = on_ok (others_written defs.structs (e ∷ more) v) (λ rest. pair u rest) in
      let there = on_ok (first_value defs.structs f v) (λ a. on_ok (other_values v) (λ w. on_ok (with_component defs.structs (e ∷ more) x w u) (pair a))) in
      chosen F (bytes_eq x f.name) here there
      (on F F (others_written defs.structs (e ∷ more) v) (λ rest. pair u rest) (others_fine (e ∷ more) v g) (λ rest y. pair_fine u rest k y))
      (on F F (first_value defs.structs f v) (λ a. on_ok (other_values v) (λ w. on_ok (with_component defs.structs (e ∷ more) x w u) (pair a))) (first_value_fine f v g)
      (λ a y. on F F (other_values v) (λ w. on_ok (with_component defs.structs (e ∷ more) x w u) (pair a)) (other_values_fine v g)
      (λ w z. on F F (with_component defs.structs (e ∷ more) x w u) (pair a) (component_with_fine (e ∷ more) x w u z k) (λ rest q. pair_fine a rest y q))))

  field_with_fine : (shape : Shape) (x : List ℕ) (v u : Plain) → F v → F u → Gives F (with_field defs.structs shape x v u)
  field_with_fine (s.Struct tag) x v u g k = fields_then (fields_of defs.structs tag) (λ fields. with_component defs.structs fields x v u) (λ fields. component_with_fine fields x v u g k)
  field_with_fine shape x v u g k = tt

  item_with_fine : (shape : Shape) (step : PathStep) (v u : Plain) → StepFine step → F v → F u → Gives F (with_item defs.structs shape step v u)
  item_with_fine shape (FieldStep x) v u p g k = field_with_fine shape x v u g k
  item_with_fine shape (Subscript i) v u p g k = element_with_fine i v u p g k

  updated_along : (t : SizedType) (path : List PathStep) (v new : Plain) → S t → AllByRecursion StepFine path → F v → F new → Gives F (updated_at defs.structs t path v new)
  updated_along t [] v new w p g k = k
  updated_along t (step ∷ []) v new w p g k = on_after t step (λ after. with_item defs.structs t.shape step v new) w (λ after z. item_with_fine t.shape step v new p.0 g k)
  updated_along t (step ∷ next ∷ path) v new w p g k =
      on_after t step (λ after. on_ok (item defs.structs t after step v) (λ y. on_ok (updated_at defs.structs after (next ∷ path) y new) (λ u. with_item defs.structs t.shape step v u))) w
      (λ after z. on F F (item defs.structs t after step v) (λ y. on_ok (updated_at defs.structs after (next ∷ path) y new) (λ u. with_item defs.structs t.shape step v u)) (item_fine t after step v z p.0 g)
      (λ y a. on F F (updated_at defs.structs after (next ∷ path) y new) (λ u. with_item defs.structs t.shape step v u) (updated_along after (next ∷ path) y new z p.1 a k) (λ u b. item_with_fine t.shape step v u p.0 g b)))

  pub updated_fine : (t : SizedType) (path : List PathStep) (v new u : Plain) → S t → AllByRecursion StepFine path → F v → F new → update defs.structs t path v new ≡ Ok u → F u
  updated_fine t path v new u w p g k e = given (update defs.structs t path v new) u (typed_or_not (type_at defs.structs t path) (updated_at defs.structs t path v new) (updated_along t path v new w p g k)) e
