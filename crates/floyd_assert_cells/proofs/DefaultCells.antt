-- What holds an object with some value holds it with the default value.
use Rattle.std.proofs.Common.{◌≡◌, ℕ, zero, suc, ◌+◌, ℤ, pos, negsuc, List, [], ◌∷◌, length, replicate, Option, None, Some, inl, option_map, refl, sym, ◌∙◌, ap, ap₂, subst}
use Rattle.std.specs.Option.{option_map_or}
use Rattle.std.proofs.lemmas.List.{length-replicate}
use Rattle.std.proofs.lemmas.Option.{same_Some}
use Rattle.floyd_ctypes.specs.declared.ctype.CType.{CType, more_of-CType, end_of-CType}
use Rattle.floyd_ctypes.specs.declared.ctype.CType as c
use Rattle.floyd_ctypes.specs.declared.field.Field.{Field}
use Rattle.floyd_ctypes.specs.declared.layout.Layout.{Layout}
use Rattle.floyd_ctypes.specs.Layout.{nothing_laid, offset_after, after}
use Rattle.floyd_ctypes.specs.Structs.{Structs, completes}
use Rattle.floyd_clight_heap.specs.Heaplet.{Heaplet}
use Rattle.floyd_tree_sorts.specs.declared.shape.Shape.{Shape, Void, Int, Pointer', Array', Struct as StructShape, Function', more_of-Shape, end_of-Shape}
use Rattle.floyd_tree_values.specs.Data.{Datum, Number, Val, Seq, Tree, Pair, data_of, listed, seq}
use Rattle.floyd_tree_values.specs.Defaults.{undefined, type_default, fields_default, shape_default, struct_default, default_value}
use Rattle.floyd_assert_cells.specs.Types.{Sized}
use Rattle.floyd_assert_cells.specs.Forms.{Form, Single, Array, Struct, Fields, EndAt, FieldAt, form_layout, form_size, type_form, fields_form, shape_form, struct_form, form_of}
use Rattle.floyd_assert_cells.specs.Cells.{ItemsAt, parted, FormCells, FieldCells}
use Rattle.floyd_assert_cells.proofs.FieldParts.{take_field, put_field}
use Rattle.floyd_assert_cells.proofs.FormLaws.{mapped, chained, opened}

-- ---- the default value of a form

abbrev mutual
  pub form_default : Form → Datum
  form_default (Single s) = undefined
  form_default (Array f n) = seq (replicate n (form_default f))
  form_default (Struct fields) = fields_value fields

  pub fields_value : Fields → Datum
  fields_value (EndAt size) = undefined
  fields_value (FieldAt name at f rest) = first_value (form_default f) rest (fields_value rest)

  -- the first field's value before that of the others, if there are any
  pub first_value : Datum → Fields → Datum → Datum
  first_value d (EndAt size) e = d
  first_value d (FieldAt name at f rest) e = Pair d e

first_parts : (f : Form) (rest : Fields) → parted rest (first_value (form_default f) rest (fields_value rest)) ≡ Some (form_default f, fields_value rest)
first_parts f (EndAt size) = refl
first_parts f (FieldAt name at g rest) = refl

pub listed_data : (ds : List Datum) → listed (data_of ds) ≡ ds
listed_data [] = refl
listed_data (d ∷ ds) = ap (λ xs. d ∷ xs) (listed_data ds)

pub items_default : (P : Datum → ℕ → Heaplet → Type 0) (s : ℕ) (e : Datum) → ((d : Datum) (o : ℕ) (h : Heaplet) → P d o h → P e o h) → (ds : List Datum) (o : ℕ) (h : Heaplet) → ItemsAt P s ds o h → ItemsAt P s (replicate (length ds) e) o h
items_default P s e each [] o h w = w
items_default P s e each (d ∷ ds) o h w = (w.0, w.1, w.2, each d o w.0 w.3, items_default P s e each ds (o + s) w.1 w.4)

module _ (less b : ℕ) where
  mutual
    pub cells_default : (f : Form) (v : Datum) (o : ℕ) (h : Heaplet) → FormCells less b f v o h → FormCells less b f (form_default f) o h
    cells_default (Single s) (Val v) o h c = record { bytes = c.bytes; count = c.count; exact = c.exact; reads = inl refl }
    cells_default (Array f n) (Seq items) o h c =
        let d = form_default f in
        let same : replicate (length (listed items)) d ≡ listed (data_of (replicate n d)) = ap (λ m. replicate m d) c.0 ∙ sym (listed_data (replicate n d)) in (
          ap length (listed_data (replicate n d)) ∙ length-replicate n d,
          subst (λ ds. ItemsAt (FormCells less b f) (form_size f) ds o h) same
              (items_default (FormCells less b f) (form_size f) d (λ x p g w. cells_default f x p g w) (listed items) o h c.1),
        )
    cells_default (Struct fields) v o h c = (c.0, c.1, c.2, fields_cells_default fields v o c.0 c.3, c.4)
    cells_default (Single s) (Number z) o h c = absurd c
    cells_default (Single s) (Seq items) o h c = absurd c
    cells_default (Single s) (Tree t) o h c = absurd c
    cells_default (Single s) (Pair x y) o h c = absurd c
    cells_default (Array f n) (Number z) o h c = absurd c
    cells_default (Array f n) (Val v) o h c = absurd c
    cells_default (Array f n) (Tree t) o h c = absurd c
    cells_default (Array f n) (Pair x y) o h c = absurd c

    pub fields_cells_default : (fields : Fields) (v : Datum) (o : ℕ) (h : Heaplet) → FieldCells less b fields v o h → FieldCells less b fields (fields_value fields) o h
    fields_cells_default (EndAt size) v o h c = c
    fields_cells_default (FieldAt name at f rest) v o h c =
        let t = take_field less b name at f rest v o h c in
        put_field less b name at f rest (first_value (form_default f) rest (fields_value rest)) (form_default f) (fields_value rest) o t.here t.behind h (first_parts f rest) t.joins
        (cells_default f t.first (o + at) t.here t.holds)
        (fields_cells_default rest t.others o t.behind t.more)

-- ---- it is that of the type

abbrev pub Defaults : (List ℕ → Option Form) → (List ℕ → Datum) → Type 0
Defaults of by = (tag : List ℕ) (f : Form) → of tag ≡ Some f → by tag ≡ form_default f

type_default_is : (of : List ℕ → Option Form) (by : List ℕ → Datum) → Defaults of by → (t : CType) (f : Form) → type_form of t ≡ Some f → type_default by t ≡ form_default f
type_default_is of by same c.Void f e = cc
type_default_is of by same (c.Int k) f e = ap form_default (same_Some _ f e)
type_default_is of by same (c.Pointer' p to) f e = ap form_default (same_Some _ f e)
type_default_is of by same (c.Array' p (more_of-CType t end_of-CType) n) f e =
    let g = mapped (λ g. Array g n) (type_form of t) f e in
    ap (λ d. seq (replicate n d)) (type_default_is of by same t g.0 g.1) ∙ ap form_default g.2
type_default_is of by same (c.Struct tag) f e = same tag f e
type_default_is of by same (c.Function' shape ps p r) f e = cc

behind : (name : List ℕ) (at : ℕ) (k : Form) (o : Option Fields) (d : Datum) (g : Fields) → option_map (FieldAt name at k) o ≡ Some g → Pair d (fields_value g) ≡ first_value d g (fields_value g)
behind name at k None d g e = cc
behind name at k (Some r) d (EndAt size) e = cc
behind name at k (Some r) d (FieldAt n a f rest) e = refl

fields_default_is : (of : List ℕ → Option Form) (by : List ℕ → Datum) → Defaults of by → (laid : Layout) (fs : List Field) (g : Fields) → fields_form of laid fs ≡ Some g → fields_default by fs ≡ fields_value g
fields_default_is of by same laid [] g e = ap fields_value (same_Some _ g e)
fields_default_is of by same laid (x ∷ []) g e =
    let first = chained (λ h. option_map (FieldAt x.name (offset_after laid (form_layout h)) h) (fields_form of (after laid (form_layout h)) [])) (type_form of x.ty) g e in
    type_default_is of by same x.ty first.0 first.1 ∙ ap fields_value (same_Some _ g first.2)
fields_default_is of by same laid (x ∷ y ∷ more) g e =
    let first = chained (λ h. option_map (FieldAt x.name (offset_after laid (form_layout h)) h) (fields_form of (after laid (form_layout h)) (y ∷ more))) (type_form of x.ty) g e in
    let h = first.0 in
    let rest = mapped (FieldAt x.name (offset_after laid (form_layout h)) h) (fields_form of (after laid (form_layout h)) (y ∷ more)) g first.2 in
    ap₂ Pair (type_default_is of by same x.ty h first.1) (fields_default_is of by same (after laid (form_layout h)) (y ∷ more) rest.0 rest.1)
    ∙ behind _ _ _ _ (form_default h) rest.0 (chained (λ k. option_map (FieldAt y.name (offset_after (after laid (form_layout h)) (form_layout k)) k) (fields_form of (after (after laid (form_layout h)) (form_layout k)) more)) (type_form of y.ty) rest.0 rest.1).2
    ∙ ap fields_value rest.2

struct_default_is : (depth : ℕ) (structs : Structs) → Defaults (struct_form depth structs) (struct_default depth structs)
struct_default_is zero structs tag f e = cc
struct_default_is (suc depth) structs tag f e =
    let s = opened depth structs tag f e in
    ap (λ o. option_map_or (fields_default (struct_default depth structs)) o undefined) s.is
    ∙ fields_default_is (struct_form depth structs) (struct_default depth structs) (struct_default_is depth structs) nothing_laid s.fields s.forms s.laid
    ∙ ap form_default s.same

shape_default_is : (of : List ℕ → Option Form) (by : List ℕ → Datum) → Defaults of by → (t : Shape) (sizes : List ℤ) (f : Form) → shape_form of t sizes ≡ Some f → shape_default by t sizes ≡ form_default f
shape_default_is of by same Void sizes f e = cc
shape_default_is of by same (Int k) sizes f e = ap form_default (same_Some _ f e)
shape_default_is of by same (Pointer' p to) sizes f e = ap form_default (same_Some _ f e)
shape_default_is of by same (Array' p (more_of-Shape t end_of-Shape)) [] f e = cc
shape_default_is of by same (Array' p (more_of-Shape t end_of-Shape)) (pos n ∷ sizes) f e =
    let g = mapped (λ g. Array g n) (shape_form of t sizes) f e in
    ap (λ d. seq (replicate n d)) (shape_default_is of by same t sizes g.0 g.1) ∙ ap form_default g.2
shape_default_is of by same (Array' p (more_of-Shape t end_of-Shape)) (negsuc n ∷ sizes) f e = cc
shape_default_is of by same (StructShape tag) sizes f e = same tag f e
shape_default_is of by same (Function' shape ps p r) sizes f e = cc

-- the default value of a type is that of its form
pub default_is : (structs : Structs) (t : Sized) (f : Form) → form_of structs t ≡ Some f → default_value structs t.shape t.sizes ≡ form_default f
default_is structs t f e =
    shape_default_is (struct_form (completes structs) structs) (struct_default (completes structs) structs) (struct_default_is (completes structs) structs) t.shape t.sizes f e
