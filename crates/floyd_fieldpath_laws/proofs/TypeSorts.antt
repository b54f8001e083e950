-- The types along a path have sizes for their arrays and value sorts.
use Rattle.std.proofs.Common.{◌≡◌, ℕ, zero, suc, ◌+◌, List, [], ◌∷◌, map, length, Option, Some, None, refl, sym, ◌∙◌, ap, subst, arith, ℤ, bytes_eq, All}
use Rattle.std.specs.Prelude.{option_map, option_and_then, find}
use Rattle.std.proofs.lemmas.List.Elements.{All-nil, All-cons, All-tail}
use Rattle.std.proofs.lemmas.Option.{same_Some}
use Rattle.floyd_ctypes.specs.declared.ctype.CType.{CType, more_of-CType, end_of-CType}
use Rattle.floyd_ctypes.specs.declared.ctype.CType as c
use Rattle.floyd_ctypes.specs.declared.field.Field.{Field}
use Rattle.floyd_ctypes.specs.Structs.{Structs, fields_of, field_of, completes}
use Rattle.floyd_tree_sorts.specs.declared.shape.Shape.{Shape, more_of-Shape, end_of-Shape}
use Rattle.floyd_tree_sorts.specs.declared.shape.Shape as s
use Rattle.floyd_tree_sorts.specs.declared.sorts.Sort.{Sort}
use Rattle.floyd_tree_sorts.specs.Sorts.{list_sort}
use Rattle.floyd_tree_sorts.specs.Table.{arrays}
use Rattle.floyd_tree.specs.declared.paths.PathStep.{PathStep}
use Rattle.floyd_tree.specs.declared.paths.PathStep.TheVariants.{Field as FieldStep, Subscript}
use Rattle.floyd_tree.specs.Plain.{Plain}
use Rattle.floyd_tree.specs.Types.{SizedType}
use Rattle.floyd_tree_values.specs.Defaults.{type_sort, fields_sort, shape_sort, struct_sort, value_sort}
use Rattle.floyd_assert_cells.specs.Types.{shape_of, sizes_of}
use Rattle.floyd_fieldpath.specs.Nested.{element_type, field_type, literal, sized_type, type_after, type_at}
use Rattle.floyd_fieldpath.proofs.SortDepths.{fields_kept, list_some, one_more, pair_some}
use Rattle.floyd_fieldpath.proofs.TypeLemmas.{literals_count}
use Rattle.floyd_fieldpath_laws.specs.Conditions.{HasSizes, IsNumber, IsPath, IsStep}
use Rattle.floyd_fieldpath_laws.specs.SortLaws.{IsNested}
use Rattle.floyd_fieldpath_laws.proofs.Tests.{tested}

-- the sorts of structs, as deep as they are
abbrev pub sorts : Structs → List ℕ → Option Sort
sorts structs = struct_sort (completes structs) structs

-- the shape of a type of C has its value sort
pub same_sort_of : (of : List ℕ → Option Sort) (t : CType) → shape_sort of (shape_of t) ≡ type_sort of t
same_sort_of of c.Void = refl
same_sort_of of (c.Int kind) = refl
same_sort_of of (c.Pointer' p (more_of-CType t end_of-CType)) = refl
same_sort_of of (c.Array' p (more_of-CType t end_of-CType) n) = ap (option_map list_sort) (same_sort_of of t)
same_sort_of of (c.Struct tag) = refl
same_sort_of of (c.Function' shape ps p (more_of-CType r end_of-CType)) = refl

-- the value sort of a struct is that of its fields
pub record FieldsHave (structs : Structs) (tag : List ℕ) (sort : Sort) : Type 0 where
  pub fields : List Field
  pub is : fields_of structs tag ≡ Some fields
  pub has : fields_sort (sorts structs) fields ≡ Some sort

pub fields_have : (structs : Structs) (tag : List ℕ) (sort : Sort) → value_sort structs (s.Struct tag) ≡ Some sort → FieldsHave structs tag sort
fields_have structs tag sort e = by (completes structs) refl e
  where
    there : (d : ℕ) (o : Option (List Field)) → completes structs ≡ suc d → fields_of structs tag ≡ o → option_and_then (fields_sort (struct_sort d structs)) o ≡ Some sort → FieldsHave structs tag sort
    there d (Some fields) n f g =
        record {
          fields = fields;
          is = f;
          has = subst (λ k. fields_sort (struct_sort k structs) fields ≡ Some sort) (sym n)
              (fields_kept (struct_sort d structs) (struct_sort (suc d) structs) (one_more structs d) fields sort g);
        }
    there d None n f g = absurd cc

    by : (d : ℕ) → completes structs ≡ d → struct_sort d structs tag ≡ Some sort → FieldsHave structs tag sort
    by zero n g = absurd cc
    by (suc d) n g = there d (fields_of structs tag) n refl g

-- the field of a name has a sort where all have
pub field_has : (of : List ℕ → Option Sort) (fields : List Field) (x : List ℕ) (f : Field) (sort : Sort) → fields_sort of fields ≡ Some sort → find (λ g. bytes_eq x g.name) fields ≡ Some f → (r : Sort) × (type_sort of f.ty ≡ Some r)
field_has of [] x f sort e p = absurd cc
field_has of (g ∷ []) x f sort e p =
    tested ((r : Sort) × (type_sort of f.ty ≡ Some r)) (bytes_eq x g.name) (Some g) None (Some f) p
    (λ a q. (sort, ap (λ (h : Field). type_sort of h.ty) (sym (same_Some g f q)) ∙ e))
    (λ a q. absurd cc)
field_has of (g ∷ h ∷ more) x f sort e p =
    let k = pair_some (type_sort of g.ty) (fields_sort of (h ∷ more)) sort e in
    tested ((r : Sort) × (type_sort of f.ty ≡ Some r)) (bytes_eq x g.name) (Some g) (find (λ y. bytes_eq x y.name) (h ∷ more)) (Some f) p
    (λ a q. (k.0, ap (λ (y : Field). type_sort of y.ty) (sym (same_Some g f q)) ∙ k.2))
    (λ a q. field_has of (h ∷ more) x f k.1 k.3 q)

-- ---- sizes

literals_sorted : (zs : List ℤ) → All IsNumber (map literal zs)
literals_sorted [] = All-nil IsNumber
literals_sorted (z ∷ zs) = All-cons IsNumber (literal z) (map literal zs) refl (literals_sorted zs)

pub field_sizes : (t : CType) → HasSizes (sized_type t)
field_sizes t = record { count = literals_count t; numbers = literals_sorted (sizes_of t) }

-- ---- one step

-- a type of a field, and what it is the type of
pub record IsField (structs : Structs) (shape : Shape) (x : List ℕ) (u : SizedType) : Type 0 where
  pub tag : List ℕ
  pub shape_is : shape ≡ s.Struct tag
  pub field : Field
  pub found : field_of structs tag x ≡ Some field
  pub type : u ≡ sized_type field.ty

pub is_field : (structs : Structs) (shape : Shape) (x : List ℕ) (u : SizedType) → field_type structs shape x ≡ Some u → IsField structs shape x u
is_field structs (s.Struct tag) x u e = by (field_of structs tag x) refl e
  where
    by : (o : Option Field) → field_of structs tag x ≡ o → option_map (λ f. sized_type f.ty) o ≡ Some u → IsField structs (s.Struct tag) x u
    by (Some f) g h = record { tag = tag; shape_is = refl; field = f; found = g; type = cc }
    by None g h = absurd cc
is_field structs shape x u e = absurd cc

-- an array with the type of its elements
pub record IsElement (shape : Shape) (sizes : List Plain) (u : SizedType) : Type 0 where
  pub count : Plain
  pub shape_is : shape ≡ s.Array' tt (more_of-Shape u.shape end_of-Shape)
  pub sizes_are : sizes ≡ count ∷ u.sizes

pub is_element : (shape : Shape) (sizes : List Plain) (u : SizedType) → element_type shape sizes ≡ Some u → IsElement shape sizes u
is_element (s.Array' p (more_of-Shape element end_of-Shape)) (n ∷ sizes) u e =
    let same : ◌≡◌ {A = SizedType} (record { shape = element; sizes = sizes }) u = cc in
    record {
      count = n;
      shape_is = ap (λ (t : SizedType). s.Array' tt (more_of-Shape t.shape end_of-Shape)) same;
      sizes_are = ap (λ (t : SizedType). n ∷ t.sizes) same;
    }
is_element (s.Array' p (more_of-Shape element end_of-Shape)) [] u e = absurd cc
is_element s.Void sizes u e = absurd cc
is_element (s.Int kind) sizes u e = absurd cc
is_element (s.Pointer' p to) sizes u e = absurd cc
is_element (s.Struct tag) sizes u e = absurd cc
is_element (s.Function' q ps p r) sizes u e = absurd cc

-- the elements of an array have sizes, and the sort of the items of its own
pub element_sizes : (t u : SizedType) → IsElement t.shape t.sizes u → HasSizes t → HasSizes u
element_sizes t u e w =
    let numbers : All IsNumber (e.count ∷ u.sizes) = subst (All IsNumber) e.sizes_are w.numbers in
    let counts : length (e.count ∷ u.sizes) ≡ arrays u.shape + 1 = ap length (sym e.sizes_are) ∙ w.count ∙ ap arrays e.shape_is in
    record { count = omega (arith, counts); numbers = All-tail IsNumber e.count u.sizes numbers }

pub element_sort : (structs : Structs) (t u : SizedType) (sort : Sort) → IsElement t.shape t.sizes u → value_sort structs t.shape ≡ Some sort → (r : Sort) × (value_sort structs u.shape ≡ Some r) × (list_sort r ≡ sort)
element_sort structs t u sort e h = list_some (value_sort structs u.shape) sort (ap (value_sort structs) (sym e.shape_is) ∙ h)

pub field_sort : (structs : Structs) (shape : Shape) (x : List ℕ) (u : SizedType) (sort : Sort) (f : IsField structs shape x u) → value_sort structs shape ≡ Some sort → (r : Sort) × (value_sort structs u.shape ≡ Some r)
field_sort structs shape x u sort f h =
    let w = fields_have structs f.tag sort (ap (value_sort structs) (sym f.shape_is) ∙ h) in
    let named : find (λ g. bytes_eq x g.name) w.fields ≡ Some f.field = ap (option_and_then (find (λ g. bytes_eq x g.name))) (sym w.is) ∙ f.found in
    let r = field_has (sorts structs) w.fields x f.field sort w.has named in
    (r.0, ap (λ (t : SizedType). value_sort structs t.shape) f.type ∙ same_sort_of (sorts structs) f.field.ty ∙ r.1)

pub sizes_after : (structs : Structs) (t u : SizedType) (step : PathStep) → HasSizes t → type_after structs t step ≡ Some u → HasSizes u
sizes_after structs t u (FieldStep x) w e =
    let f = is_field structs t.shape x u e in
    subst HasSizes (sym f.type) (field_sizes f.field.ty)
sizes_after structs t u (Subscript i) w e = element_sizes t u (is_element t.shape t.sizes u e) w

pub sort_after : (structs : Structs) (t u : SizedType) (step : PathStep) (sort : Sort) → type_after structs t step ≡ Some u → value_sort structs t.shape ≡ Some sort → (r : Sort) × (value_sort structs u.shape ≡ Some r)
sort_after structs t u (FieldStep x) sort e h = field_sort structs t.shape x u sort (is_field structs t.shape x u e) h
sort_after structs t u (Subscript i) sort e h =
    let r = element_sort structs t u sort (is_element t.shape t.sizes u e) h in
    (r.0, r.1)

-- ---- a path

pub step_some : (structs : Structs) (path : List PathStep) (o : Option SizedType) (u : SizedType) → option_and_then (λ w. type_at structs w path) o ≡ Some u → (w : SizedType) × (o ≡ Some w) × (type_at structs w path ≡ Some u)
step_some structs path (Some w) u e = (w, refl, e)
step_some structs path None u e = absurd cc

pub types_have_sorts : (structs : Structs) (t u : SizedType) (path : List PathStep) (sort : Sort) → HasSizes t → IsPath path → type_at structs t path ≡ Some u → value_sort structs t.shape ≡ Some sort → IsNested structs u
types_have_sorts structs t u [] sort w p e h =
    let same : t ≡ u = cc in
    record { sizes = subst HasSizes same w; sort = sort; has = ap (λ (x : SizedType). value_sort structs x.shape) (sym same) ∙ h }
types_have_sorts structs t u (step ∷ path) sort w p e h =
    let a = step_some structs path (type_after structs t step) u e in
    let r = sort_after structs t a.0 step sort a.1 h in
    types_have_sorts structs a.0 u path r.0 (sizes_after structs t a.0 step w a.1) (All-tail IsStep step path p) a.2 r.1
