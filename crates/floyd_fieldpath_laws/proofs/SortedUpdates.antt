-- Updated values have the value sorts that they had, unless something that is written is beyond the limits.
use Rattle.std.proofs.Common.{◌≡◌, ◌⊎◌, inl, inr, ℕ, Bool, true, false, List, [], ◌∷◌, Option, Some, None, Result, Ok, Err, refl, sym, ◌∙◌, ap, subst, bytes_eq}
use Rattle.std.specs.Prelude.{if◌then◌else◌, find, option_and_then}
use Rattle.std.proofs.lemmas.List.Elements.{All-head, All-tail}
use Rattle.std.proofs.lemmas.Option.{same_Some}
use Rattle.floyd_text.specs.declared.refusal.No.{No}
use Rattle.floyd_ctypes.specs.declared.field.Field.{Field}
use Rattle.floyd_ctypes.specs.Structs.{Structs}
use Rattle.floyd_tree_sorts.specs.declared.operators.Operator.{Operator}
use Rattle.floyd_tree_sorts.specs.declared.operators.Operator.TheVariants.{Pair, Upd, Vints, Vlongs}
use Rattle.floyd_tree_sorts.specs.declared.shape.Shape.{Shape}
use Rattle.floyd_tree_sorts.specs.declared.sorts.Sort.{Sort, Z, Val}
use Rattle.floyd_tree_sorts.specs.Operators.{row}
use Rattle.floyd_tree_sorts.specs.Sorts.{list_sort, pair_sort}
use Rattle.floyd_tree_sorts.specs.Table.{by_row}
use Rattle.floyd_tree.specs.declared.paths.PathStep.{PathStep}
use Rattle.floyd_tree.specs.declared.paths.PathStep.TheVariants.{Field as FieldStep, Subscript}
use Rattle.floyd_tree.specs.Plain.{Plain, head_of}
use Rattle.floyd_tree.specs.Types.{SizedType}
use Rattle.floyd_tree.specs.WellSorted.{sort_of}
use Rattle.floyd_tree_values.specs.Defaults.{fields_sort, type_sort, value_sort}
use Rattle.floyd_fieldpath.specs.Addresses.{on_type}
use Rattle.floyd_fieldpath.specs.Nested.{sized_type, type_after, type_at}
use Rattle.floyd_fieldpath.specs.Projections.{is_default, is_ints, is_longs, item, kid_under, of_fields, one, second_of, first_of}
use Rattle.floyd_fieldpath.specs.Sums.{two}
use Rattle.floyd_fieldpath.specs.Updates.{both, default_and, default_of_field, fields_default, first_value, is_int, is_long, list_with, numbers_with, other_values, others_written, pair, three, update, updated_at, with_component, with_element, with_field, with_item}
use Rattle.floyd_fieldpath.specs.Written.{on_ok, written}
use Rattle.floyd_fieldpath.proofs.SortDepths.{pair_some}
use Rattle.floyd_fieldpath_laws.specs.Conditions.{Answers, HasSizes, IsNumber, IsPath, IsStep}
use Rattle.floyd_fieldpath_laws.proofs.SortedItems.{default_made, first_made, item_made, second_made}
use Rattle.floyd_fieldpath_laws.proofs.TermSorts.{int_kid, ints_kid, long_kid, longs_kid, made, next, one_sort, pair_row, three_sort, two_sort, upd_row}
use Rattle.floyd_fieldpath_laws.proofs.Tests.{tested}
use Rattle.floyd_fieldpath_laws.proofs.TypeSorts.{IsField, element_sort, field_sizes, fields_have, is_element, is_field, same_sort_of, sizes_after, sort_after, sorts, step_some}

-- ---- fields

pub pair_made : (x y : Plain) (a b : Sort) → sort_of x ≡ Some a → sort_of y ≡ Some b → Answers (pair_sort a b) (pair x y)
pair_made x y a b e f = made (pair_sort a b) (two Pair x y) (two_sort Pair (pair_sort a b) a b x y e f (pair_row a b))

pub field_default_made : (structs : Structs) (f : Field) (r : Sort) → type_sort (sorts structs) f.ty ≡ Some r → Answers r (default_of_field structs f)
field_default_made structs f r e = default_made structs (sized_type f.ty) r (field_sizes f.ty) (same_sort_of (sorts structs) f.ty ∙ e)

pub fields_default_made : (structs : Structs) (fields : List Field) (sort : Sort) → fields_sort (sorts structs) fields ≡ Some sort → Answers sort (fields_default structs fields)
fields_default_made structs [] sort e = absurd cc
fields_default_made structs (f ∷ []) sort e = field_default_made structs f sort e
fields_default_made structs (f ∷ g ∷ more) sort e =
    let m = pair_some (type_sort (sorts structs) f.ty) (fields_sort (sorts structs) (g ∷ more)) sort e in
    subst (λ z. Answers z (fields_default structs (f ∷ g ∷ more))) m.4
    (next m.1 (pair_sort m.0 m.1) (fields_default structs (g ∷ more)) (default_and structs f) (fields_default_made structs (g ∷ more) m.1 m.3)
    (λ rest i. next m.0 (pair_sort m.0 m.1) (default_of_field structs f) (λ a. pair a rest) (field_default_made structs f m.0 m.2) (λ a j. pair_made a rest m.0 m.1 j i)))

-- a default, which stands for the defaults of all fields, or a value of that sort
abbrev pub Stands : Sort → Plain → Type 0
Stands sort v = (is_default (head_of v) ≡ true) ⊎ (sort_of v ≡ Some sort)

sorted : (sort : Sort) (v : Plain) → Stands sort v → is_default (head_of v) ≡ false → sort_of v ≡ Some sort
sorted sort v (inl d) f = let wrong : true ≡ false = sym d ∙ f in absurd cc
sorted sort v (inr e) f = e

pub first_value_made : (structs : Structs) (f : Field) (v : Plain) (a b : Sort) → type_sort (sorts structs) f.ty ≡ Some a → Stands (pair_sort a b) v → Answers a (first_value structs f v)
first_value_made structs f v a b t h = by (is_default (head_of v)) refl
  where
    by : (d : Bool) → is_default (head_of v) ≡ d → Answers a (if d then default_of_field structs f else first_of v)
    by true e = field_default_made structs f a t
    by false e = first_made v a b (sorted (pair_sort a b) v h e)

pub others_made : (structs : Structs) (fields : List Field) (v : Plain) (a b : Sort) → fields_sort (sorts structs) fields ≡ Some b → Stands (pair_sort a b) v → Answers b (others_written structs fields v)
others_made structs fields v a b t h = by (is_default (head_of v)) refl
  where
    by : (d : Bool) → is_default (head_of v) ≡ d → Answers b (if d then fields_default structs fields else second_of v)
    by true e = fields_default_made structs fields b t
    by false e = second_made v a b (sorted (pair_sort a b) v h e)

-- what follows the values of the others
beyond : (v : Plain) (a b s : Sort) (f : Plain → Result Plain No) → Stands (pair_sort a b) v → ((w : Plain) → Stands b w → Answers s (f w)) → Answers s (on_ok (other_values v) f)
beyond v a b s f h g = by (is_default (head_of v)) refl
  where
    further : (d : Result Plain No) → Answers b d → Answers s (on_ok d f)
    further (Ok w) e = g w (inr e)
    further (Err refusal) e = e

    by : (d : Bool) → is_default (head_of v) ≡ d → Answers s (on_ok (if d then Ok v else second_of v) f)
    by true e = g v (inl e)
    by false e = further (second_of v) (second_made v a b (sorted (pair_sort a b) v h e))

pub component_updated : (structs : Structs) (fields : List Field) (x : List ℕ) (f : Field) (v u : Plain) (sort r : Sort) →
    type_sort (sorts structs) f.ty ≡ Some r → fields_sort (sorts structs) fields ≡ Some sort → find (λ g. bytes_eq x g.name) fields ≡ Some f →
    Stands sort v → sort_of u ≡ Some r → Answers sort (with_component structs fields x v u)
component_updated structs [] x f v u sort r t e p h i = absurd cc
component_updated structs (g ∷ []) x f v u sort r t e p h i =
    tested (sort_of u ≡ Some sort) (bytes_eq x g.name) (Some g) None (Some f) p
    (λ a q. i ∙ sym t ∙ ap (λ (y : Field). type_sort (sorts structs) y.ty) (sym (same_Some g f q)) ∙ e)
    (λ a q. absurd cc)
component_updated structs (g ∷ k ∷ more) x f v u sort r t e p h i =
    let m = pair_some (type_sort (sorts structs) g.ty) (fields_sort (sorts structs) (k ∷ more)) sort e in
    let stands : Stands (pair_sort m.0 m.1) v = subst (λ z. Stands z v) (sym m.4) h in
    let here = on_ok (others_written structs (k ∷ more) v) (λ rest. pair u rest) in
    let there = on_ok (first_value structs g v) (λ y. on_ok (other_values v) (λ w. on_ok (with_component structs (k ∷ more) x w u) (pair y))) in
    subst (λ z. Answers z (with_component structs (g ∷ k ∷ more) x v u)) m.4
    (tested (Answers (pair_sort m.0 m.1) (if bytes_eq x g.name then here else there)) (bytes_eq x g.name) (Some g) (find (λ y. bytes_eq x y.name) (k ∷ more)) (Some f) p
    (λ c q.
    let same : Some r ≡ Some m.0 = sym t ∙ ap (λ (y : Field). type_sort (sorts structs) y.ty) (sym (same_Some g f q)) ∙ m.2 in
    subst (λ b. Answers (pair_sort m.0 m.1) (if b then here else there)) (sym c)
    (next m.1 (pair_sort m.0 m.1) (others_written structs (k ∷ more) v) (λ rest. pair u rest) (others_made structs (k ∷ more) v m.0 m.1 m.3 stands) (λ rest j. pair_made u rest m.0 m.1 (i ∙ same) j)))
    (λ c q.
    subst (λ b. Answers (pair_sort m.0 m.1) (if b then here else there)) (sym c)
    (next m.0 (pair_sort m.0 m.1) (first_value structs g v) (λ y. on_ok (other_values v) (λ w. on_ok (with_component structs (k ∷ more) x w u) (pair y)))
    (first_value_made structs g v m.0 m.1 m.2 stands)
    (λ y j. beyond v m.0 m.1 (pair_sort m.0 m.1) (λ w. on_ok (with_component structs (k ∷ more) x w u) (pair y)) stands
    (λ w l. next m.1 (pair_sort m.0 m.1) (with_component structs (k ∷ more) x w u) (pair y) (component_updated structs (k ∷ more) x f w u m.1 r t m.3 q l i) (λ z n. pair_made y z m.0 m.1 j n))))))

pub field_updated : (structs : Structs) (shape : Shape) (u : SizedType) (x : List ℕ) (v new : Plain) (sort r : Sort) → IsField structs shape x u →
    value_sort structs shape ≡ Some sort → value_sort structs u.shape ≡ Some r → sort_of v ≡ Some sort → sort_of new ≡ Some r → Answers sort (with_field structs shape x v new)
field_updated structs shape u x v new sort r f e d h i =
    let k = fields_have structs f.tag sort (ap (value_sort structs) (sym f.shape_is) ∙ e) in
    let named : find (λ g. bytes_eq x g.name) k.fields ≡ Some f.field = ap (option_and_then (find (λ g. bytes_eq x g.name))) (sym k.is) ∙ f.found in
    let typed : type_sort (sorts structs) f.field.ty ≡ Some r = sym (same_sort_of (sorts structs) f.field.ty) ∙ ap (λ (t : SizedType). value_sort structs t.shape) (sym f.type) ∙ d in
    subst (λ z. Answers sort (with_field structs z x v new)) (sym f.shape_is)
    (subst (λ o. Answers sort (of_fields o (λ fields. with_component structs fields x v new))) (sym k.is)
    (component_updated structs k.fields x f.field v new sort r typed k.has named (inr h) i))

-- ---- elements

numbers_made : (values : Operator) (i z l : Plain) → by_row (row values) (list_sort Z ∷ []) ≡ Some (list_sort Val) → IsNumber i → IsNumber z → sort_of l ≡ Some (list_sort Z) → Answers (list_sort Val) (numbers_with values i (z, l))
numbers_made values i z l w n m k =
    next (list_sort Z) (list_sort Val) (written (three Upd i z l)) (λ y. written (one values y))
    (made (list_sort Z) (three Upd i z l) (three_sort Upd (list_sort Z) Z Z (list_sort Z) i z l n m k (upd_row Z)))
    (λ y g. made (list_sort Val) (one values y) (one_sort values (list_sort Val) (list_sort Z) y g w))

pub element_updated : (i v u : Plain) (r : Sort) → IsNumber i → sort_of v ≡ Some (list_sort r) → sort_of u ≡ Some r → Answers (list_sort r) (with_element i v u)
element_updated i v u r n h m = by (kid_under is_int 0 u) (kid_under is_ints 0 v) (kid_under is_long 0 u) (kid_under is_longs 0 v) refl refl refl refl
  where
    other : Answers (list_sort r) (written (three Upd i u v))
    other = made (list_sort r) (three Upd i u v) (three_sort Upd (list_sort r) Z r (list_sort r) i u v n m h (upd_row r))

    ints : (z l : Plain) → kid_under is_int 0 u ≡ Some z → kid_under is_ints 0 v ≡ Some l → Answers (list_sort r) (numbers_with Vints i (z, l))
    ints z l e f =
        let k = ints_kid l (list_sort r) v f h in
        subst (λ y. Answers y (numbers_with Vints i (z, l))) (sym k.1) (numbers_made Vints i z l refl n (int_kid z r u e m) k.0)

    longs : (z l : Plain) → kid_under is_long 0 u ≡ Some z → kid_under is_longs 0 v ≡ Some l → Answers (list_sort r) (numbers_with Vlongs i (z, l))
    longs z l e f =
        let k = longs_kid l (list_sort r) v f h in
        subst (λ y. Answers y (numbers_with Vlongs i (z, l))) (sym k.1) (numbers_made Vlongs i z l refl n (long_kid z r u e m) k.0)

    last : (c d : Option Plain) → kid_under is_long 0 u ≡ c → kid_under is_longs 0 v ≡ d → Answers (list_sort r) (list_with None (both c d) i v u)
    last (Some z) (Some l) e f = longs z l e f
    last (Some z) None e f = other
    last None d e f = other

    by : (a b c d : Option Plain) → kid_under is_int 0 u ≡ a → kid_under is_ints 0 v ≡ b → kid_under is_long 0 u ≡ c → kid_under is_longs 0 v ≡ d → Answers (list_sort r) (list_with (both a b) (both c d) i v u)
    by (Some z) (Some l) c d e f g k = ints z l e f
    by (Some z) None c d e f g k = last c d g k
    by None b c d e f g k = last c d g k

-- ---- paths

pub item_updated : (structs : Structs) (t u : SizedType) (step : PathStep) (v new : Plain) (sort r : Sort) → IsStep step → type_after structs t step ≡ Some u → value_sort structs t.shape ≡ Some sort → value_sort structs u.shape ≡ Some r →
    sort_of v ≡ Some sort → sort_of new ≡ Some r → Answers sort (with_item structs t.shape step v new)
item_updated structs t u (FieldStep x) v new sort r p e d f h i = field_updated structs t.shape u x v new sort r (is_field structs t.shape x u e) d f h i
item_updated structs t u (Subscript j) v new sort r p e d f h i =
    let k = element_sort structs t u sort (is_element t.shape t.sizes u e) d in
    let here : Some r ≡ Some k.0 = sym f ∙ k.1 in
    subst (λ z. Answers z (with_element j v new)) k.2 (element_updated j v new k.0 p (h ∙ ap Some (sym k.2)) (i ∙ here))

pub updated_sorts : (structs : Structs) (t u : SizedType) (path : List PathStep) (v new : Plain) (sort r : Sort) → HasSizes t → IsPath path → type_at structs t path ≡ Some u → value_sort structs t.shape ≡ Some sort → value_sort structs u.shape ≡ Some r →
    sort_of v ≡ Some sort → sort_of new ≡ Some r → Answers sort (updated_at structs t path v new)
updated_sorts structs t u [] v new sort r w p e d f h i =
    let same : t ≡ u = cc in
    i ∙ sym f ∙ ap (λ (x : SizedType). value_sort structs x.shape) (sym same) ∙ d
updated_sorts structs t u (step ∷ []) v new sort r w p e d f h i =
    let a = step_some structs [] (type_after structs t step) u e in
    let same : a.0 ≡ u = cc in
    subst (λ o. Answers sort (on_type o (λ after. with_item structs t.shape step v new))) (sym a.1)
    (item_updated structs t a.0 step v new sort r (All-head IsStep step [] p) a.1 d (ap (λ (x : SizedType). value_sort structs x.shape) same ∙ f) h i)
updated_sorts structs t u (step ∷ more ∷ path) v new sort r w p e d f h i =
    let a = step_some structs (more ∷ path) (type_after structs t step) u e in
    let k = sort_after structs t a.0 step sort a.1 d in
    let there = sizes_after structs t a.0 step w a.1 in
    subst (λ o. Answers sort (on_type o (λ after. on_ok (item structs t after step v) (λ y. on_ok (updated_at structs after (more ∷ path) y new) (λ z. with_item structs t.shape step v z))))) (sym a.1)
    (next k.0 sort (item structs t a.0 step v) (λ y. on_ok (updated_at structs a.0 (more ∷ path) y new) (λ z. with_item structs t.shape step v z))
    (item_made structs t a.0 step v sort k.0 w (All-head IsStep step (more ∷ path) p) a.1 d k.1 h)
    (λ y l. next k.0 sort (updated_at structs a.0 (more ∷ path) y new) (λ z. with_item structs t.shape step v z)
    (updated_sorts structs a.0 u (more ∷ path) y new k.0 r there (All-tail IsStep step (more ∷ path) p) a.2 k.1 f l i)
    (λ z n. item_updated structs t a.0 step v z sort k.0 (All-head IsStep step (more ∷ path) p) a.1 d k.1 h n)))

pub updates_have_sorts : (structs : Structs) (t u : SizedType) (path : List PathStep) (v new : Plain) (sort r : Sort) → HasSizes t → IsPath path → type_at structs t path ≡ Some u → value_sort structs t.shape ≡ Some sort → value_sort structs u.shape ≡ Some r →
    sort_of v ≡ Some sort → sort_of new ≡ Some r → Answers sort (update structs t path v new)
updates_have_sorts structs t u path v new sort r w p e d f h i =
    subst (λ o. Answers sort (on_type o (λ nested. updated_at structs t path v new))) (sym e) (updated_sorts structs t u path v new sort r w p e d f h i)
