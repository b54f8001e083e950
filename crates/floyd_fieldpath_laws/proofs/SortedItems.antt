-- Items along paths have the value sorts of their types, unless something that is written is beyond the limits.
use Rattle.std.proofs.Common.{◌≡◌, ℕ, Bool, true, false, ◌&&◌, List, [], ◌∷◌, length, Option, Some, None, Result, refl, sym, ◌∙◌, ap, ap₂, subst, All, bytes_eq, arith, nat_eq}
use Rattle.std.specs.Prelude.{if◌then◌else◌, find, option_and_then}
use Rattle.std.proofs.lemmas.List.Elements.{All-head, All-tail}
use Rattle.std.proofs.lemmas.Option.{same_Some}
use Rattle.floyd_text.specs.declared.refusal.No.{No}
use Rattle.floyd_ctypes.specs.declared.field.Field.{Field}
use Rattle.floyd_ctypes.specs.Structs.{Structs}
use Rattle.floyd_tree_sorts.specs.declared.heads.Head.TheVariants as h
use Rattle.floyd_tree_sorts.specs.declared.operators.Operator.TheVariants.{Fst, Snd, Nth, Pair, Vint, Vlong, Vundef}
use Rattle.floyd_tree_sorts.specs.declared.shape.Shape.{Shape, more_of-Shape, end_of-Shape}
use Rattle.floyd_tree_sorts.specs.declared.shape.Shape as s
use Rattle.floyd_tree_sorts.specs.declared.sorts.Sort.{Sort, Z, Val}
use Rattle.floyd_tree_sorts.specs.Rows.{is_scalar}
use Rattle.floyd_tree_sorts.specs.Sorts.{item_sort, list_sort, pair_sort}
use Rattle.floyd_tree_sorts.specs.Table.{all_z, arrays, sort_at, when}
use Rattle.floyd_tree.specs.declared.paths.PathStep.{PathStep}
use Rattle.floyd_tree.specs.declared.paths.PathStep.TheVariants.{Field as FieldStep, Subscript}
use Rattle.floyd_tree.specs.Plain.{Plain, At, Done, head_of, plains}
use Rattle.floyd_tree.specs.Types.{SizedType}
use Rattle.floyd_tree.specs.WellSorted.{sort_of, sorts_of, with_first}
use Rattle.floyd_tree_values.specs.Defaults.{fields_sort, type_sort, value_sort}
use Rattle.floyd_fieldpath.specs.Addresses.{on_type}
use Rattle.floyd_fieldpath.specs.DefaultTerms.{default_term}
use Rattle.floyd_fieldpath.specs.Nested.{type_after, type_at}
use Rattle.floyd_fieldpath.specs.Projections.{component, default_of, default_with, element, field_item, first_of, is_default, is_ints, is_longs, item, item_at, kid_under, of_fields, of_list, one, project, second_of, value_at}
use Rattle.floyd_fieldpath.specs.Sums.{two}
use Rattle.floyd_fieldpath.specs.Written.{on_ok, written}
use Rattle.floyd_fieldpath.proofs.SortDepths.{pair_some}
use Rattle.floyd_fieldpath_laws.specs.Conditions.{Answers, HasSizes, IsNumber, IsPath, IsStep}
use Rattle.floyd_fieldpath_laws.proofs.TermSorts.{fst_row, ints_kid, longs_kid, made, next, nth_row, one_sort, pair_kids, snd_row, two_sort}
use Rattle.floyd_fieldpath_laws.proofs.Tests.{tested}
use Rattle.floyd_fieldpath_laws.proofs.TypeSorts.{IsField, element_sort, fields_have, is_element, is_field, same_sort_of, sizes_after, sort_after, sorts, step_some}

-- ---- defaults

number_sorts : (ts : List Plain) → All IsNumber ts → (ss : List Sort) × (sorts_of (plains ts) ≡ Some ss) × (length ss ≡ length ts) × (all_z ss ≡ true)
number_sorts [] h = ([], refl, refl, refl)
number_sorts (t ∷ ts) h =
    let k = number_sorts ts (All-tail IsNumber t ts h) in
    (Z ∷ k.0, ap₂ with_first (All-head IsNumber t ts h) k.1, omega (arith, k.2), k.3)

equal_counts : (m n : ℕ) → m ≡ n → nat_eq m n ≡ true
equal_counts m n e = grind (arith, e)

pub default_sort : (t : SizedType) (sort : Sort) → HasSizes t → sort_of (At (h.Default t.shape sort) (plains t.sizes)) ≡ Some sort
default_sort t sort w =
    let k = number_sorts t.sizes w.numbers in
    ap (option_and_then (sort_at (h.Default t.shape sort))) k.1
    ∙ ap₂ (λ a b. when (a && b) sort) (equal_counts (length k.0) (arrays t.shape) (k.2 ∙ w.count)) k.3

scalar_val : (structs : Structs) (shape : Shape) (sort : Sort) → is_scalar shape ≡ true → value_sort structs shape ≡ Some sort → sort ≡ Val
scalar_val structs (s.Int kind) sort b e = cc
scalar_val structs (s.Pointer' p to) sort b e = cc
scalar_val structs s.Void sort b e = absurd cc
scalar_val structs (s.Array' p a) sort b e = absurd cc
scalar_val structs (s.Struct tag) sort b e = absurd cc
scalar_val structs (s.Function' q ps p r) sort b e = absurd cc

pub default_made : (structs : Structs) (t : SizedType) (sort : Sort) → HasSizes t → value_sort structs t.shape ≡ Some sort → Answers sort (default_of structs t)
default_made structs t sort w e =
    subst (λ o. Answers sort (default_with o t)) (sym e) (made sort (default_term t sort) (by (is_scalar t.shape) refl))
  where
    by : (b : Bool) → is_scalar t.shape ≡ b → sort_of (if b then At (h.Operator Vundef) Done else At (h.Default t.shape sort) (plains t.sizes)) ≡ Some sort
    by true f = ap Some (sym (scalar_val structs t.shape sort f e))
    by false f = default_sort t sort w

-- ---- parts of pairs

pub first_made : (v : Plain) (a b : Sort) → sort_of v ≡ Some (pair_sort a b) → Answers a (first_of v)
first_made (At (h.Operator Pair) kids) a b e =
    let k = pair_kids kids a b e in
    subst (λ ks. Answers a (first_of (At (h.Operator Pair) ks))) (sym k.is) k.first_sort
first_made (At head kids) a b e = made a (one Fst (At head kids)) (one_sort Fst a (pair_sort a b) (At head kids) e (fst_row a b))

pub second_made : (v : Plain) (a b : Sort) → sort_of v ≡ Some (pair_sort a b) → Answers b (second_of v)
second_made (At (h.Operator Pair) kids) a b e =
    let k = pair_kids kids a b e in
    subst (λ ks. Answers b (second_of (At (h.Operator Pair) ks))) (sym k.is) k.second_sort
second_made (At head kids) a b e = made b (one Snd (At head kids)) (one_sort Snd b (pair_sort a b) (At head kids) e (snd_row a b))

-- ---- fields

pub choose : (s : Sort) (b : Bool) (x y : Result Plain No) → Answers s x → Answers s y → Answers s (if b then x else y)
choose s true x y f g = f
choose s false x y f g = g

pub component_made : (structs : Structs) (after : SizedType) (fields : List Field) (x : List ℕ) (f : Field) (v : Plain) (sort r : Sort) →
    HasSizes after → value_sort structs after.shape ≡ Some r → type_sort (sorts structs) f.ty ≡ Some r → fields_sort (sorts structs) fields ≡ Some sort → find (λ g. bytes_eq x g.name) fields ≡ Some f →
    sort_of v ≡ Some sort → Answers r (component structs after fields x v)
component_made structs after [] x f v sort r w d t e p h = absurd cc
component_made structs after (g ∷ []) x f v sort r w d t e p h =
    tested (sort_of v ≡ Some r) (bytes_eq x g.name) (Some g) None (Some f) p
    (λ a q. h ∙ sym e ∙ ap (λ (y : Field). type_sort (sorts structs) y.ty) (same_Some g f q) ∙ t)
    (λ a q. absurd cc)
component_made structs after (g ∷ k ∷ more) x f v sort r w d t e p h =
    let m = pair_some (type_sort (sorts structs) g.ty) (fields_sort (sorts structs) (k ∷ more)) sort e in
    let sorted : sort_of v ≡ Some (pair_sort m.0 m.1) = h ∙ ap Some (sym m.4) in
    let rest = on_ok (second_of v) (component structs after (k ∷ more) x) in
    choose r (is_default (head_of v)) (default_of structs after) (if bytes_eq x g.name then first_of v else rest) (default_made structs after r w d)
    (tested (Answers r (if bytes_eq x g.name then first_of v else rest)) (bytes_eq x g.name) (Some g) (find (λ y. bytes_eq x y.name) (k ∷ more)) (Some f) p
    (λ a q.
    let here : Some m.0 ≡ Some r = sym m.2 ∙ ap (λ (y : Field). type_sort (sorts structs) y.ty) (same_Some g f q) ∙ t in
    subst (λ b. Answers r (if b then first_of v else rest)) (sym a) (subst (λ z. Answers z (first_of v)) (same_Some m.0 r here) (first_made v m.0 m.1 sorted)))
    (λ a q.
    subst (λ b. Answers r (if b then first_of v else rest)) (sym a)
    (next m.1 r (second_of v) (component structs after (k ∷ more) x) (second_made v m.0 m.1 sorted)
    (λ z i. component_made structs after (k ∷ more) x f z m.1 r w d t m.3 q i))))

pub field_made : (structs : Structs) (shape : Shape) (u : SizedType) (x : List ℕ) (v : Plain) (sort r : Sort) → IsField structs shape x u → HasSizes u →
    value_sort structs shape ≡ Some sort → value_sort structs u.shape ≡ Some r → sort_of v ≡ Some sort → Answers r (field_item structs shape u x v)
field_made structs shape u x v sort r f w e d h =
    let k = fields_have structs f.tag sort (ap (value_sort structs) (sym f.shape_is) ∙ e) in
    let named : find (λ g. bytes_eq x g.name) k.fields ≡ Some f.field = ap (option_and_then (find (λ g. bytes_eq x g.name))) (sym k.is) ∙ f.found in
    let typed : type_sort (sorts structs) f.field.ty ≡ Some r = sym (same_sort_of (sorts structs) f.field.ty) ∙ ap (λ (t : SizedType). value_sort structs t.shape) (sym f.type) ∙ d in
    subst (λ z. Answers r (field_item structs z u x v)) (sym f.shape_is)
    (choose r (is_default (head_of v)) _ _ (default_made structs u r w d)
    (subst (λ o. Answers r (of_fields o (λ fields. component structs u fields x v))) (sym k.is)
    (component_made structs u k.fields x f.field v sort r w d typed k.has named h)))

-- ---- elements

pub list_item : (a b : Sort) → list_sort a ≡ list_sort b → a ≡ b
list_item a b e = same_Some a b (ap item_sort e)

pub element_made : (structs : Structs) (u : SizedType) (i v : Plain) (r : Sort) → HasSizes u → IsNumber i → value_sort structs u.shape ≡ Some r → sort_of v ≡ Some (list_sort r) → Answers r (element structs u i v)
element_made structs u i v r w n d h =
    choose r (is_default (head_of v)) _ _ (default_made structs u r w d) (by (kid_under is_ints 0 v) (kid_under is_longs 0 v) refl refl)
  where
    by : (o p : Option Plain) → kid_under is_ints 0 v ≡ o → kid_under is_longs 0 v ≡ p → Answers r (of_list o p i v)
    by (Some l) p e f =
        let k = ints_kid l (list_sort r) v e h in
        let val : r ≡ Val = list_item r Val k.1 in
        subst (λ z. Answers z (value_at Vint i l)) (sym val)
        (next Z Val (written (two Nth i l)) (λ m. written (one Vint m)) (made Z (two Nth i l) (two_sort Nth Z Z (list_sort Z) i l n k.0 refl)) (λ m g. made Val (one Vint m) (one_sort Vint Val Z m g refl)))
    by None (Some l) e f =
        let k = longs_kid l (list_sort r) v f h in
        let val : r ≡ Val = list_item r Val k.1 in
        subst (λ z. Answers z (value_at Vlong i l)) (sym val)
        (next Z Val (written (two Nth i l)) (λ m. written (one Vlong m)) (made Z (two Nth i l) (two_sort Nth Z Z (list_sort Z) i l n k.0 refl)) (λ m g. made Val (one Vlong m) (one_sort Vlong Val Z m g refl)))
    by None None e f = made r (two Nth i v) (two_sort Nth r Z (list_sort r) i v n h (nth_row r))

-- ---- paths

pub item_made : (structs : Structs) (t u : SizedType) (step : PathStep) (v : Plain) (sort r : Sort) → HasSizes t → IsStep step → type_after structs t step ≡ Some u → value_sort structs t.shape ≡ Some sort → value_sort structs u.shape ≡ Some r →
    sort_of v ≡ Some sort → Answers r (item structs t u step v)
item_made structs t u (FieldStep x) v sort r w p e d f h = field_made structs t.shape u x v sort r (is_field structs t.shape x u e) (sizes_after structs t u (FieldStep x) w e) d f h
item_made structs t u (Subscript i) v sort r w p e d f h =
    let k = element_sort structs t u sort (is_element t.shape t.sizes u e) d in
    let same : Some k.0 ≡ Some r = sym k.1 ∙ f in
    let here : k.0 ≡ r = cc in
    element_made structs u i v r (sizes_after structs t u (Subscript i) w e) p f (h ∙ ap Some (sym k.2 ∙ ap list_sort here))

pub items_have_sorts : (structs : Structs) (t u : SizedType) (path : List PathStep) (v : Plain) (sort r : Sort) → HasSizes t → IsPath path → type_at structs t path ≡ Some u → value_sort structs t.shape ≡ Some sort → value_sort structs u.shape ≡ Some r →
    sort_of v ≡ Some sort → Answers r (item_at structs t path v)
items_have_sorts structs t u [] v sort r w p e d f h =
    let same : t ≡ u = cc in
    h ∙ sym d ∙ ap (λ (x : SizedType). value_sort structs x.shape) same ∙ f
items_have_sorts structs t u (step ∷ path) v sort r w p e d f h =
    let a = step_some structs path (type_after structs t step) u e in
    let k = sort_after structs t a.0 step sort a.1 d in
    subst (λ o. Answers r (on_type o (λ after. on_ok (item structs t after step v) (item_at structs after path)))) (sym a.1)
    (next k.0 r (item structs t a.0 step v) (item_at structs a.0 path)
    (item_made structs t a.0 step v sort k.0 w (All-head IsStep step path p) a.1 d k.1 h)
    (λ z i. items_have_sorts structs a.0 u path z k.0 r (sizes_after structs t a.0 step w a.1) (All-tail IsStep step path p) a.2 k.1 f i))

pub projects_have_sorts : (structs : Structs) (t u : SizedType) (path : List PathStep) (v : Plain) (sort r : Sort) → HasSizes t → IsPath path → type_at structs t path ≡ Some u → value_sort structs t.shape ≡ Some sort → value_sort structs u.shape ≡ Some r →
    sort_of v ≡ Some sort → Answers r (project structs t path v)
projects_have_sorts structs t u path v sort r w p e d f h =
    subst (λ o. Answers r (on_type o (λ nested. item_at structs t path v))) (sym e) (items_have_sorts structs t u path v sort r w p e d f h)
