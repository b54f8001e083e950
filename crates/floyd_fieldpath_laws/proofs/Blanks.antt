-- What an object holds is shaped as its form, and where all of it is undefined it is the default of the form.
use Rattle.std.proofs.Common.{◌≡◌, ℕ, zero, suc, ◌+◌, ◌<◌, Bool, true, false, ℤ, pos, negsuc, List, [], ◌∷◌, length, replicate, get_or, Option, Some, None, All, refl, sym, ◌∙◌, ap, ap₂, subst, bytes_eq, arith}
use Rattle.std.specs.Prelude.{if◌then◌else◌, option_map, option_and_then}
use Rattle.std.specs.Option.{option_map_or}
use Rattle.std.proofs.lemmas.List.Elements.{All-nil, All-cons, All-head, All-tail}
use Rattle.std.proofs.lemmas.Option.{same_Some}
use Rattle.floyd_int.specs.declared.kinds.Value.TheVariants.{Vundef}
use Rattle.floyd_ctypes.specs.declared.ctype.CType.{CType, more_of-CType, end_of-CType}
use Rattle.floyd_ctypes.specs.declared.ctype.CType as c
use Rattle.floyd_ctypes.specs.declared.field.Field.{Field}
use Rattle.floyd_ctypes.specs.declared.layout.Layout.{Layout}
use Rattle.floyd_ctypes.specs.Layout.{after, nothing_laid, offset_after, padded}
use Rattle.floyd_ctypes.specs.Structs.{Structs, completes, fields_of}
use Rattle.floyd_clight_heap.specs.Heaplet.{Heaplet}
use Rattle.floyd_tree_sorts.specs.declared.shape.Shape.{Shape, more_of-Shape, end_of-Shape}
use Rattle.floyd_tree_sorts.specs.declared.shape.Shape as s
use Rattle.floyd_tree_sorts.specs.declared.sorts.Sort.{Sort}
use Rattle.floyd_tree_values.specs.Data.{Datum, Data, Number, Val, Seq, Tree, Pair, Empty, Item, data_of, listed}
use Rattle.floyd_tree_values.specs.Lists.{at_least_zero}
use Rattle.floyd_tree_values.specs.Defaults.{undefined, default_value, fields_default, fields_sort, shape_default, shape_sort, struct_default, struct_sort, type_default, type_sort, value_sort}
use Rattle.floyd_assert_cells.specs.Cells.{FieldCells, FormCells, ItemsAt, parted}
use Rattle.floyd_assert_cells.specs.Forms.{Form, Single, Array, Struct, Fields, EndAt, FieldAt, fields_form, form_layout, form_of, form_size, shape_form, struct_form, type_form}
use Rattle.floyd_assert_cells.specs.Items.{Found, field_in, field_value, first_part, other_part}
use Rattle.floyd_assert_cells.specs.Scalars.{Address, Integer}
use Rattle.floyd_assert_cells.specs.Types.{Sized}
use Rattle.floyd_assert_cells.proofs.DefaultCells.{fields_value, form_default}
use Rattle.floyd_assert_cells.proofs.FieldParts.{take_field}
use Rattle.floyd_assert_cells.proofs.FormLaws.{chained, mapped, opened}
use Rattle.floyd_fieldpath.proofs.SortDepths.{list_some, pair_some}
use Rattle.floyd_fieldpath_laws.proofs.Tests.{tested}

-- ---- shapes

-- a value of more than one field is a pair
abbrev pub IsParted : Fields → Datum → Type 0
IsParted (EndAt size) d = Unit {0}
IsParted (FieldAt name at f rest) (Pair a b) = Unit {0}
IsParted (FieldAt name at f rest) d = ⊥

abbrev mutual
  pub IsShaped : Form → Datum → Type 0
  IsShaped (Single r) (Val v) = Unit {0}
  IsShaped (Single r) d = ⊥
  IsShaped (Array f n) (Seq items) = (length (listed items) ≡ n) × All (IsShaped f) (listed items)
  IsShaped (Array f n) d = ⊥
  IsShaped (Struct fields) d = AreShaped fields d

  pub AreShaped : Fields → Datum → Type 0
  AreShaped (EndAt size) d = Unit {0}
  AreShaped (FieldAt name at f rest) d = IsParted rest d × IsShaped f (first_part rest d) × AreShaped rest (other_part rest d)

parts_are : (rest : Fields) (v x y : Datum) → parted rest v ≡ Some (x, y) → IsParted rest v × (x ≡ first_part rest v) × (y ≡ other_part rest v)
parts_are (EndAt size) v x y e =
    let same : ◌≡◌ {A = Datum × Datum} (v, undefined) (x, y) = cc in
    (tt, ap (λ (q : Datum × Datum). q.0) (sym same), ap (λ (q : Datum × Datum). q.1) (sym same))
parts_are (FieldAt name at f rest) (Pair a b) x y e =
    let same : ◌≡◌ {A = Datum × Datum} (a, b) (x, y) = cc in
    (tt, ap (λ (q : Datum × Datum). q.0) (sym same), ap (λ (q : Datum × Datum). q.1) (sym same))
parts_are (FieldAt name at f rest) (Number z) x y e = absurd cc
parts_are (FieldAt name at f rest) (Val v) x y e = absurd cc
parts_are (FieldAt name at f rest) (Seq items) x y e = absurd cc
parts_are (FieldAt name at f rest) (Tree t) x y e = absurd cc

items_shaped : (P : Datum → ℕ → Heaplet → Type 0) (Q : Datum → Type 0) (k : ℕ) → ((d : Datum) (o : ℕ) (h : Heaplet) → P d o h → Q d) → (ds : List Datum) (o : ℕ) (h : Heaplet) → ItemsAt P k ds o h → All Q ds
items_shaped P Q k each [] o h w = All-nil Q
items_shaped P Q k each (d ∷ ds) o h w = All-cons Q d ds (each d o w.0 w.3) (items_shaped P Q k each ds (o + k) w.1 w.4)

module _ (less b : ℕ) where
  mutual
    -- what an object holds is shaped as its form
    pub cells_shaped : (f : Form) (v : Datum) (o : ℕ) (h : Heaplet) → FormCells less b f v o h → IsShaped f v
    cells_shaped (Single r) (Val v) o h k = tt
    cells_shaped (Array f n) (Seq items) o h k = (k.0, items_shaped (FormCells less b f) (IsShaped f) (form_size f) (λ x p g w. cells_shaped f x p g w) (listed items) o h k.1)
    cells_shaped (Struct fields) v o h k = fields_shaped fields v o k.0 k.3
    cells_shaped (Single r) (Number z) o h k = absurd k
    cells_shaped (Single r) (Seq items) o h k = absurd k
    cells_shaped (Single r) (Tree t) o h k = absurd k
    cells_shaped (Single r) (Pair x y) o h k = absurd k
    cells_shaped (Array f n) (Number z) o h k = absurd k
    cells_shaped (Array f n) (Val v) o h k = absurd k
    cells_shaped (Array f n) (Tree t) o h k = absurd k
    cells_shaped (Array f n) (Pair x y) o h k = absurd k

    fields_shaped : (fields : Fields) (v : Datum) (o : ℕ) (h : Heaplet) → FieldCells less b fields v o h → AreShaped fields v
    fields_shaped (EndAt size) v o h k = tt
    fields_shaped (FieldAt name at f rest) v o h k =
        let t = take_field less b name at f rest v o h k in
        let p = parts_are rest v t.first t.others t.parts in (
          p.0,
          subst (IsShaped f) p.1 (cells_shaped f t.first (o + at) t.here t.holds),
          subst (AreShaped rest) p.2 (fields_shaped rest t.others o t.behind t.more),
        )

-- ---- forms without empty structs

abbrev pub HasFields : Fields → Type 0
HasFields (EndAt size) = ⊥
HasFields (FieldAt name at f rest) = Unit {0}

abbrev mutual
  pub IsSolid : Form → Type 0
  IsSolid (Single r) = Unit {0}
  IsSolid (Array f n) = IsSolid f
  IsSolid (Struct fields) = HasFields fields × AreSolid fields

  pub AreSolid : Fields → Type 0
  AreSolid (EndAt size) = Unit {0}
  AreSolid (FieldAt name at f rest) = IsSolid f × AreSolid rest

-- the form of a field and those of the others
pub record FormsOf (of : List ℕ → Option Form) (laid : Layout) (k : Field) (more : List Field) (forms : Fields) : Type 0 where
  pub form : Form
  pub rest : Fields
  pub form_is : type_form of k.ty ≡ Some form
  pub rest_is : fields_form of (after laid (form_layout form)) more ≡ Some rest
  pub same : forms ≡ FieldAt k.name (offset_after laid (form_layout form)) form rest

pub forms_of : (of : List ℕ → Option Form) (laid : Layout) (k : Field) (more : List Field) (forms : Fields) → fields_form of laid (k ∷ more) ≡ Some forms → FormsOf of laid k more forms
forms_of of laid k more forms e =
    let first = chained (λ g. option_map (FieldAt k.name (offset_after laid (form_layout g)) g) (fields_form of (after laid (form_layout g)) more)) (type_form of k.ty) forms e in
    let rest = mapped (FieldAt k.name (offset_after laid (form_layout first.0)) first.0) (fields_form of (after laid (form_layout first.0)) more) forms first.2 in
    record { form = first.0; rest = rest.0; form_is = first.1; rest_is = rest.1; same = sym rest.2 }

-- of one field
pub record AloneOf (of : List ℕ → Option Form) (laid : Layout) (k : Field) (forms : Fields) : Type 0 where
  pub form : Form
  pub size : ℕ
  pub form_is : type_form of k.ty ≡ Some form
  pub same : forms ≡ FieldAt k.name (offset_after laid (form_layout form)) form (EndAt size)

pub alone_of : (of : List ℕ → Option Form) (laid : Layout) (k : Field) (forms : Fields) → fields_form of laid (k ∷ []) ≡ Some forms → AloneOf of laid k forms
alone_of of laid k forms e =
    let p = forms_of of laid k [] forms e in
    let end = padded (after laid (form_layout p.form)) in
    let rest : EndAt end.size ≡ p.rest = same_Some (EndAt end.size) p.rest p.rest_is in
    record { form = p.form; size = end.size; form_is = p.form_is; same = p.same ∙ ap (FieldAt k.name (offset_after laid (form_layout p.form)) p.form) (sym rest) }

pub has_fields : (of : List ℕ → Option Form) (laid : Layout) (k : Field) (more : List Field) (forms : Fields) → fields_form of laid (k ∷ more) ≡ Some forms → HasFields forms
has_fields of laid k more forms e = subst HasFields (sym (forms_of of laid k more forms e).same) tt

-- where there is a value sort, no struct is empty
abbrev Solids : (List ℕ → Option Form) → (List ℕ → Option Sort) → Type 0
Solids of by = (tag : List ℕ) (f : Form) (sort : Sort) → of tag ≡ Some f → by tag ≡ Some sort → IsSolid f

module _ (of : List ℕ → Option Form) (by : List ℕ → Option Sort) (solid : Solids of by) where
  pub type_solid : (t : CType) (f : Form) (sort : Sort) → type_form of t ≡ Some f → type_sort by t ≡ Some sort → IsSolid f
  type_solid c.Void f sort e g = absurd cc
  type_solid (c.Int k) f sort e g = let same : Single (Integer k) ≡ f = cc in subst IsSolid same tt
  type_solid (c.Pointer' p to) f sort e g = let same : Single Address ≡ f = cc in subst IsSolid same tt
  type_solid (c.Array' p (more_of-CType t end_of-CType) n) f sort e g =
      let a = mapped (λ x. Array x n) (type_form of t) f e in
      let b = list_some (type_sort by t) sort g in
      subst IsSolid a.2 (type_solid t a.0 b.0 a.1 b.1)
  type_solid (c.Struct tag) f sort e g = solid tag f sort e g
  type_solid (c.Function' shape ps p r) f sort e g = absurd cc

  pub fields_solid : (laid : Layout) (fields : List Field) (forms : Fields) (sort : Sort) → fields_form of laid fields ≡ Some forms → fields_sort by fields ≡ Some sort → AreSolid forms
  fields_solid laid [] forms sort e g = absurd cc
  fields_solid laid (k ∷ []) forms sort e g =
      let p = alone_of of laid k forms e in
      subst AreSolid (sym p.same) (type_solid k.ty p.form sort p.form_is g, tt)
  fields_solid laid (k ∷ l ∷ more) forms sort e g =
      let p = forms_of of laid k (l ∷ more) forms e in
      let m = pair_some (type_sort by k.ty) (fields_sort by (l ∷ more)) sort g in
      subst AreSolid (sym p.same) (type_solid k.ty p.form m.0 p.form_is m.2, fields_solid (after laid (form_layout p.form)) (l ∷ more) p.rest m.1 p.rest_is m.3)

  struct_solid : (fields : List Field) (forms : Fields) (sort : Sort) → fields_form of nothing_laid fields ≡ Some forms → fields_sort by fields ≡ Some sort → IsSolid (Struct forms)
  struct_solid [] forms sort e g = absurd cc
  struct_solid (k ∷ more) forms sort e g = (has_fields of nothing_laid k more forms e, fields_solid nothing_laid (k ∷ more) forms sort e g)

  shape_solid : (t : Shape) (sizes : List ℤ) (f : Form) (sort : Sort) → shape_form of t sizes ≡ Some f → shape_sort by t ≡ Some sort → IsSolid f
  shape_solid s.Void sizes f sort e g = absurd cc
  shape_solid (s.Int k) sizes f sort e g = let same : Single (Integer k) ≡ f = cc in subst IsSolid same tt
  shape_solid (s.Pointer' p to) sizes f sort e g = let same : Single Address ≡ f = cc in subst IsSolid same tt
  shape_solid (s.Array' p (more_of-Shape t end_of-Shape)) [] f sort e g = absurd cc
  shape_solid (s.Array' p (more_of-Shape t end_of-Shape)) (pos n ∷ sizes) f sort e g =
      let a = mapped (λ x. Array x n) (shape_form of t sizes) f e in
      let b = list_some (shape_sort by t) sort g in
      subst IsSolid a.2 (shape_solid t sizes a.0 b.0 a.1 b.1)
  shape_solid (s.Array' p (more_of-Shape t end_of-Shape)) (negsuc n ∷ sizes) f sort e g = absurd cc
  shape_solid (s.Struct tag) sizes f sort e g = solid tag f sort e g
  shape_solid (s.Function' q ps p r) sizes f sort e g = absurd cc

structs_solid : (depth : ℕ) (structs : Structs) → Solids (struct_form depth structs) (struct_sort depth structs)
structs_solid zero structs tag f sort e g = absurd cc
structs_solid (suc depth) structs tag f sort e g =
    let o = opened depth structs tag f e in
    let sorted : fields_sort (struct_sort depth structs) o.fields ≡ Some sort = ap (option_and_then (fields_sort (struct_sort depth structs))) (sym o.is) ∙ g in
    subst IsSolid o.same (struct_solid (struct_form depth structs) (struct_sort depth structs) (structs_solid depth structs) o.fields o.forms sort o.laid sorted)

pub solid : (structs : Structs) (t : Sized) (f : Form) (sort : Sort) → form_of structs t ≡ Some f → value_sort structs t.shape ≡ Some sort → IsSolid f
solid structs t f sort e g =
    shape_solid (struct_form (completes structs) structs) (struct_sort (completes structs) structs) (structs_solid (completes structs) structs) t.shape t.sizes f sort e g

-- ---- blank data

abbrev mutual
  -- all of it is undefined
  pub IsBlank : Datum → Type 0
  IsBlank (Val v) = v ≡ Vundef
  IsBlank (Seq items) = AreBlank items
  IsBlank (Pair a b) = IsBlank a × IsBlank b
  IsBlank (Number z) = ⊥
  IsBlank (Tree t) = ⊥

  pub AreBlank : Data → Type 0
  AreBlank Empty = Unit {0}
  AreBlank (Item d ds) = IsBlank d × AreBlank ds

copies_blank : (n : ℕ) (d : Datum) → IsBlank d → AreBlank (data_of (replicate n d))
copies_blank zero d h = tt
copies_blank (suc n) d h = (h, copies_blank n d h)

module _ (of : List ℕ → Datum) (blank : (tag : List ℕ) → IsBlank (of tag)) where
  type_blank : (t : CType) → IsBlank (type_default of t)
  type_blank c.Void = refl
  type_blank (c.Int k) = refl
  type_blank (c.Pointer' p to) = refl
  type_blank (c.Array' p (more_of-CType t end_of-CType) n) = copies_blank n (type_default of t) (type_blank t)
  type_blank (c.Struct tag) = blank tag
  type_blank (c.Function' shape ps p r) = refl

  fields_blank : (fields : List Field) → IsBlank (fields_default of fields)
  fields_blank [] = refl
  fields_blank (f ∷ []) = type_blank f.ty
  fields_blank (f ∷ g ∷ more) = (type_blank f.ty, fields_blank (g ∷ more))

  shape_blank : (t : Shape) (sizes : List ℤ) → IsBlank (shape_default of t sizes)
  shape_blank s.Void sizes = refl
  shape_blank (s.Int k) sizes = refl
  shape_blank (s.Pointer' p to) sizes = refl
  shape_blank (s.Array' p (more_of-Shape t end_of-Shape)) [] = tt
  shape_blank (s.Array' p (more_of-Shape t end_of-Shape)) (n ∷ sizes) = copies_blank (at_least_zero n) (shape_default of t sizes) (shape_blank t sizes)
  shape_blank (s.Struct tag) sizes = blank tag
  shape_blank (s.Function' q ps p r) sizes = refl

  struct_by : (o : Option (List Field)) → IsBlank (option_map_or (fields_default of) o undefined)
  struct_by (Some fields) = fields_blank fields
  struct_by None = refl

struct_blank : (depth : ℕ) (structs : Structs) (tag : List ℕ) → IsBlank (struct_default depth structs tag)
struct_blank zero structs tag = refl
struct_blank (suc depth) structs tag = struct_by (struct_default depth structs) (struct_blank depth structs) (fields_of structs tag)

pub default_blank : (structs : Structs) (t : Shape) (sizes : List ℤ) → IsBlank (default_value structs t sizes)
default_blank structs t sizes = shape_blank (struct_default (completes structs) structs) (struct_blank (completes structs) structs) t sizes

-- ---- a blank datum that is shaped as a form is its default

pub first_blank : (rest : Fields) (d : Datum) → IsParted rest d → IsBlank d → IsBlank (first_part rest d)
first_blank (EndAt size) d p h = h
first_blank (FieldAt name at f rest) (Pair a b) p h = h.0
first_blank (FieldAt name at f rest) (Number z) p h = absurd p
first_blank (FieldAt name at f rest) (Val v) p h = absurd p
first_blank (FieldAt name at f rest) (Seq items) p h = absurd p
first_blank (FieldAt name at f rest) (Tree t) p h = absurd p

pub other_blank : (rest : Fields) (d : Datum) → IsParted rest d → IsBlank d → IsBlank (other_part rest d)
other_blank (EndAt size) d p h = refl
other_blank (FieldAt name at f rest) (Pair a b) p h = h.1
other_blank (FieldAt name at f rest) (Number z) p h = absurd p
other_blank (FieldAt name at f rest) (Val v) p h = absurd p
other_blank (FieldAt name at f rest) (Seq items) p h = absurd p
other_blank (FieldAt name at f rest) (Tree t) p h = absurd p

same_items : (Q : Datum → Type 0) (e : Datum) → ((d : Datum) → Q d → IsBlank d → d ≡ e) → (items : Data) → All Q (listed items) → AreBlank items → items ≡ data_of (replicate (length (listed items)) e)
same_items Q e each Empty h b = refl
same_items Q e each (Item d ds) h b = ap₂ Item (each d (All-head Q d (listed ds) h) b.0) (same_items Q e each ds (All-tail Q d (listed ds) h) b.1)

mutual
  pub blank_is : (f : Form) (d : Datum) → IsSolid f → IsShaped f d → IsBlank d → d ≡ form_default f
  blank_is (Single r) (Val v) w h b = ap Val b
  blank_is (Array f n) (Seq items) w h b = ap Seq (same_items (IsShaped f) (form_default f) (λ d k l. blank_is f d w k l) items h.1 b ∙ ap (λ m. data_of (replicate m (form_default f))) h.0)
  blank_is (Struct fields) d w h b = fields_blank_is fields d w.0 w.1 h b
  blank_is (Single r) (Number z) w h b = absurd h
  blank_is (Single r) (Seq items) w h b = absurd h
  blank_is (Single r) (Tree t) w h b = absurd h
  blank_is (Single r) (Pair x y) w h b = absurd h
  blank_is (Array f n) (Number z) w h b = absurd h
  blank_is (Array f n) (Val v) w h b = absurd h
  blank_is (Array f n) (Tree t) w h b = absurd h
  blank_is (Array f n) (Pair x y) w h b = absurd h

  pub fields_blank_is : (fields : Fields) (d : Datum) → HasFields fields → AreSolid fields → AreShaped fields d → IsBlank d → d ≡ fields_value fields
  fields_blank_is (EndAt size) d some w h b = absurd some
  fields_blank_is (FieldAt name at f (EndAt size)) d some w h b = blank_is f d w.0 h.1 b
  fields_blank_is (FieldAt name at f (FieldAt n m g rest)) (Pair x y) some w h b = ap₂ Pair (blank_is f x w.0 h.1 b.0) (fields_blank_is (FieldAt n m g rest) y tt w.1 h.2 b.1)
  fields_blank_is (FieldAt name at f (FieldAt n m g rest)) (Number z) some w h b = absurd h.0
  fields_blank_is (FieldAt name at f (FieldAt n m g rest)) (Val v) some w h b = absurd h.0
  fields_blank_is (FieldAt name at f (FieldAt n m g rest)) (Seq items) some w h b = absurd h.0
  fields_blank_is (FieldAt name at f (FieldAt n m g rest)) (Tree t) some w h b = absurd h.0

-- ---- the item of a field

module _ (x : List ℕ) (g : Found) where
  abbrev found : ℕ → Form → Found
  found at f = record { form = f; offset = at }

  -- the value of the first field, or of one behind it
  abbrev chosen : Bool → Fields → Datum → Datum
  chosen b rest d = if b then first_part rest d else field_value rest x (other_part rest d)

  pub field_solid : (fields : Fields) → AreSolid fields → field_in fields x ≡ Some g → IsSolid g.form
  field_solid (EndAt size) w e = absurd cc
  field_solid (FieldAt name at f rest) w e =
      tested (IsSolid g.form) (bytes_eq x name) (Some (found at f)) (field_in rest x) (Some g) e
      (λ b q. subst (λ (y : Found). IsSolid y.form) (same_Some (found at f) g q) w.0)
      (λ b q. field_solid rest w.1 q)

  pub field_shaped : (fields : Fields) (d : Datum) → AreShaped fields d → field_in fields x ≡ Some g → IsShaped g.form (field_value fields x d)
  field_shaped (EndAt size) d h e = absurd cc
  field_shaped (FieldAt name at f rest) d h e =
      tested (IsShaped g.form (chosen (bytes_eq x name) rest d)) (bytes_eq x name) (Some (found at f)) (field_in rest x) (Some g) e
      (λ b q. subst (λ t. IsShaped g.form (chosen t rest d)) (sym b) (subst (λ (y : Found). IsShaped y.form (first_part rest d)) (same_Some (found at f) g q) h.1))
      (λ b q. subst (λ t. IsShaped g.form (chosen t rest d)) (sym b) (field_shaped rest (other_part rest d) h.2 q))

  pub field_blank : (fields : Fields) (d : Datum) → AreSolid fields → AreShaped fields d → IsBlank d → field_in fields x ≡ Some g → field_value fields x d ≡ form_default g.form
  field_blank (EndAt size) d w h b e = absurd cc
  field_blank (FieldAt name at f rest) d w h b e =
      tested (chosen (bytes_eq x name) rest d ≡ form_default g.form) (bytes_eq x name) (Some (found at f)) (field_in rest x) (Some g) e
      (λ t q. ap (λ u. chosen u rest d) t ∙ blank_is f (first_part rest d) w.0 h.1 (first_blank rest d h.0 b) ∙ ap (λ (y : Found). form_default y.form) (same_Some (found at f) g q))
      (λ t q. ap (λ u. chosen u rest d) t ∙ field_blank rest (other_part rest d) w.1 h.2 (other_blank rest d h.0 b) q)

-- the only field, and a field behind another
pub found_alone : (x name : List ℕ) (at size : ℕ) (f : Form) (g : Found) → field_in (FieldAt name at f (EndAt size)) x ≡ Some g → bytes_eq x name ≡ true
found_alone x name at size f g e = by (bytes_eq x name) refl e
  where
    by : (b : Bool) → bytes_eq x name ≡ b → (if b then Some (record { form = f; offset = at }) else None) ≡ Some g → bytes_eq x name ≡ true
    by true p q = p
    by false p q = absurd cc

pub found_beyond : (x name : List ℕ) (at : ℕ) (f : Form) (rest : Fields) (g : Found) → bytes_eq x name ≡ false → field_in (FieldAt name at f rest) x ≡ Some g → field_in rest x ≡ Some g
found_beyond x name at f rest g p e = ap (λ b. if b then Some (record { form = f; offset = at }) else field_in rest x) (sym p) ∙ e

-- ---- the item of an array

at_blank : (items : Data) (j : ℕ) (e : Datum) → j < length (listed items) → AreBlank items → IsBlank (get_or (listed items) j e)
at_blank Empty j e l b = absurd (omega (arith, l))
at_blank (Item d ds) zero e l b = b.0
at_blank (Item d ds) (suc j) e l b = at_blank ds j e (omega (arith, l)) b.1

at_all : (Q : Datum → Type 0) (ds : List Datum) (j : ℕ) (e : Datum) → j < length ds → All Q ds → Q (get_or ds j e)
at_all Q [] j e l h = absurd (omega (arith, l))
at_all Q (d ∷ ds) zero e l h = All-head Q d ds h
at_all Q (d ∷ ds) (suc j) e l h = at_all Q ds j e (omega (arith, l)) (All-tail Q d ds h)

pub element_shaped : (f : Form) (items : Data) (j : ℕ) → j < length (listed items) → All (IsShaped f) (listed items) → IsShaped f (get_or (listed items) j undefined)
element_shaped f items j l h = at_all (IsShaped f) (listed items) j undefined l h

pub element_blank : (f : Form) (items : Data) (j : ℕ) → IsSolid f → j < length (listed items) → All (IsShaped f) (listed items) → AreBlank items → get_or (listed items) j undefined ≡ form_default f
element_blank f items j w l h b = blank_is f (get_or (listed items) j undefined) w (element_shaped f items j l h) (at_blank items j undefined l b)
