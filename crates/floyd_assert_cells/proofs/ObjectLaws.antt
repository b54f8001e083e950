-- Laws of parts of memory, by the forms of their types.
use Rattle.std.proofs.Common.{◌≡◌, ◌≢◌, ◌⊎◌, ℕ, zero, suc, ◌+◌, ◌*◌, ◌≤◌, ◌<◌, Bool, true, IsTrue, ℤ, pos, negsuc, ◌*ℤ◌, ◌+ℤ◌, ◌^◌, ◌%◌, ◌==◌, ◌&&◌, false, int_lt, eqb-true, List, [], ◌∷◌, ◌++◌, length, take, drop, Option, None, Some, IsSomeAnd, option_map, refl, sym, ◌∙◌, ap, subst, arith}
use Rattle.std.specs.Option.{option_map_or}
use Rattle.std.specs.Int.{◌∣◌}
use Rattle.std.proofs.lemmas.Nat.Gcd.{dvd_of_mod-eq-zero}
use Rattle.std.proofs.lemmas.Option.{same_Some}
use Rattle.floyd_int.specs.declared.kinds.Value.{Value}
use Rattle.floyd_int.specs.declared.kinds.Value.TheVariants.{Vundef, Vptr}
use Rattle.floyd_ctypes.specs.declared.ctype.CType.{CType, more_of-CType, end_of-CType}
use Rattle.floyd_ctypes.specs.declared.ctype.CType as c
use Rattle.floyd_ctypes.specs.declared.field.Field.{Field}
use Rattle.floyd_ctypes.specs.declared.layout.Layout.{Layout}
use Rattle.floyd_ctypes.specs.Layout.{after, layout, nothing_laid, offset_after, repeated}
use Rattle.floyd_ctypes.specs.Structs.{Structs, completes, fields_of}
use Rattle.floyd_memval.specs.declared.bytes.MemByte.{MemByte}
use Rattle.floyd_clight_memory.specs.Memory.{Mem, is_aligned}
use Rattle.floyd_clight_heap.specs.Heaplet.{Fits, Heaplet, Joins}
use Rattle.floyd_clight_heap.specs.Loads.{Shows}
use Rattle.floyd_clight_memory.specs.Loads.{load_by}
use Rattle.floyd_tree_values.specs.Data.{Data, Datum, Empty, Item, Number, Val, Seq, Tree, Pair, data_of, items_in, listed, seq}
use Rattle.floyd_tree_values.specs.Defaults.{default_value}
use Rattle.floyd_assert_cells.specs.Scalars.{Scalar, chunk, holds, shape_scalar}
use Rattle.floyd_assert_cells.specs.Types.{Sized, Step, align, align_by, none_negative, compatible, has_room, is_aligned_for, is_legal, offset_at, shape_of, size, size_by, sized, sizes_of, type_at}
use Rattle.floyd_assert_cells.specs.Forms.{Form, Single, Array, Struct, Fields, FieldAt, form_layout, form_of, form_size, fields_form, shape_form, struct_form, type_form}
use Rattle.floyd_assert_cells.specs.Cells.{Cells, FieldCells, FormCells, FormPadding, Padding, WithShare, is_padding, parted}
use Rattle.floyd_assert_cells.specs.Items.{item_at, with_at}
use Rattle.floyd_assert_cells.specs.Laws.{FieldSum, FocusAt, IsExact, Stored, Sum, array_of, first_of, struct_of}
use Rattle.floyd_assert_cells.proofs.Cuts.{cut_cells, uncut_cells}
use Rattle.floyd_assert_cells.proofs.DefaultCells.{cells_default, default_is}
use Rattle.floyd_assert_cells.proofs.Exact.{cells_exact}
use Rattle.floyd_assert_cells.proofs.FieldParts.{FirstField, and_some, put_field, some_and, take_field}
use Rattle.floyd_assert_cells.proofs.Focuses.{path_focus}
use Rattle.floyd_assert_cells.proofs.FormLaws.{align_is, chained, has_form, layout_is, mapped, shape_form_of, size_is, whole_struct}
use Rattle.floyd_assert_cells.proofs.FormOrders.{is_form}
use Rattle.floyd_assert_cells.proofs.PathForms.{path_found, path_placed}
use Rattle.floyd_assert_cells.proofs.ScalarLaws.{aligned_scalar, form_is_single, scalar_loads, scalar_stores, scalar_value}
use Rattle.floyd_assert_cells.proofs.SplitShares.{join_cells, join_exact, shared, split_cells, split_exact}

-- ---- the share and the form of a part

pub record Opened (structs : Structs) (share : ℤ) (t : Sized) (P : ℕ → Form → Type 0) : Type 0 where
  pub less : ℕ
  pub is : share ≡ pos (suc less)
  pub small : less < 16
  pub form : Form
  pub of : form_of structs t ≡ Some form
  pub holds : P less form

abbrev Part : Structs → ℤ → Sized → (ℕ → Form → Type 0) → Type 0
Part structs share t P = WithShare share (λ less. IsSomeAnd (form_of structs t) (λ f. P less f))

open_part : (structs : Structs) (share : ℤ) (t : Sized) (P : ℕ → Form → Type 0) → Part structs share t P → Opened structs share t P
open_part structs (pos zero) t P c = absurd c
open_part structs (negsuc n) t P c = absurd c
open_part structs (pos (suc less)) t P c =
    let f = some_and (form_of structs t) (λ f. P less f) c.1 in
    record { less = less; is = refl; small = c.0; form = f.0; of = f.1; holds = f.2 }

close_part : (structs : Structs) (less : ℕ) (t : Sized) (P : ℕ → Form → Type 0) (f : Form) → less < 16 → form_of structs t ≡ Some f → P less f → Part structs (pos (suc less)) t P
close_part structs less t P f small of p = (small, and_some (form_of structs t) (λ f. P less f) f of p)

abbrev CellsOf : Datum → ℕ → ℕ → Heaplet → ℕ → Form → Type 0
CellsOf v b o h less f = FormCells less b f v o h

pub opened : (structs : Structs) (share : ℤ) (t : Sized) (v : Datum) (b o : ℕ) (h : Heaplet) → Cells structs share t v b o h → Opened structs share t (CellsOf v b o h)
opened structs share t v b o h c = open_part structs share t (CellsOf v b o h) c

pub closed : (structs : Structs) (less : ℕ) (t : Sized) (v : Datum) (b o : ℕ) (h : Heaplet) (f : Form) → less < 16 → form_of structs t ≡ Some f → FormCells less b f v o h → Cells structs (pos (suc less)) t v b o h
closed structs less t v b o h f small of p = close_part structs less t (CellsOf v b o h) f small of p

-- what holds of the form with the share of a part holds of the part
again : (structs : Structs) (share : ℤ) (less : ℕ) (t : Sized) (v : Datum) (b o : ℕ) (h : Heaplet) (f : Form) → share ≡ pos (suc less) → less < 16 → form_of structs t ≡ Some f → FormCells less b f v o h → Cells structs share t v b o h
again structs share less t v b o h f is small of p = subst (λ s. Cells structs s t v b o h) (sym is) (closed structs less t v b o h f small of p)

-- ---- layouts

size_agrees : (structs : Structs) (t : CType) → size_by structs (shape_of t) (sizes_of t) ≡ option_map (λ l. pos l.size) (layout structs t)
size_agrees structs c.Void = refl
size_agrees structs (c.Int k) = refl
size_agrees structs (c.Pointer' p (more_of-CType to end_of-CType)) = refl
size_agrees structs (c.Array' p (more_of-CType t end_of-CType) n) = ap (option_map (λ bytes. bytes *ℤ pos n)) (size_agrees structs t) ∙ repeats (layout structs t) n
  where
    repeats : (o : Option Layout) (n : ℕ) → option_map (λ bytes. bytes *ℤ pos n) (option_map (λ l. pos l.size) o) ≡ option_map (λ l. pos l.size) (option_map (repeated n) o)
    repeats None n = refl
    repeats (Some l) n = refl
size_agrees structs (c.Struct tag) = refl
size_agrees structs (c.Function' shape ps p (more_of-CType r end_of-CType)) = refl

align_agrees : (structs : Structs) (t : CType) → align_by structs (shape_of t) ≡ option_map (λ l. l.align) (layout structs t)
align_agrees structs c.Void = refl
align_agrees structs (c.Int k) = refl
align_agrees structs (c.Pointer' p (more_of-CType to end_of-CType)) = refl
align_agrees structs (c.Array' p (more_of-CType t end_of-CType) n) = align_agrees structs t ∙ repeats (layout structs t) n
  where
    repeats : (o : Option Layout) (n : ℕ) → option_map (λ l. l.align) o ≡ option_map (λ l. l.align) (option_map (repeated n) o)
    repeats None n = refl
    repeats (Some l) n = refl
align_agrees structs (c.Struct tag) = refl
align_agrees structs (c.Function' shape ps p (more_of-CType r end_of-CType)) = refl

of_sizes : (o : Option Layout) → option_map (λ l. pos l.size) o ≡ option_map pos (option_map (λ l. l.size) o)
of_sizes None = refl
of_sizes (Some l) = refl

pub layouts_agree : (structs : Structs) (t : CType) → (size structs (sized t) ≡ option_map pos (option_map (λ l. l.size) (layout structs t))) × (align structs (sized t) ≡ option_map (λ l. l.align) (layout structs t))
layouts_agree structs t = (size_agrees structs t ∙ of_sizes (layout structs t), align_agrees structs t)

-- ---- scalars

pub scalars_loaded : (structs : Structs) (at : ℕ → ℕ → Option MemByte) (share : ℤ) (t : Sized) (r : Scalar) (v : Value) (b o : ℕ) (h : Heaplet) →
    Shows at h → shape_scalar t.shape ≡ Some r → Cells structs share t (Val v) b o h → v ≢ Vundef → is_aligned (chunk r) o ≡ true → load_by at (chunk r) b o ≡ Some v
scalars_loaded structs at share t r v b o h shows is c some aligned =
    let q = opened structs share t (Val v) b o h c in
    let single : Single r ≡ q.form = form_is_single structs t.shape t.sizes r q.form is q.of in
    scalar_loads at q.less b r v o h shows (subst (λ f. FormCells q.less b f (Val v) o h) (sym single) q.holds) some aligned

full_share : (less : ℕ) → pos 16 ≡ pos (suc less) → less ≡ 15
full_share less e =
    let n : 16 ≡ suc less = cc in
    omega (arith, n)

pub scalars_stored : (structs : Structs) (t : Sized) (r : Scalar) (v w : Value) (b o : ℕ) (h F k : Heaplet) (m : Mem) → Joins h F k → Fits k m → shape_scalar t.shape ≡ Some r → Cells structs (pos 16) t (Val v) b o h → IsTrue (holds r w) → is_aligned (chunk r) o ≡ true → Stored structs t r w F m b o
scalars_stored structs t r v w b o h F k m j f is c good aligned =
    let q = opened structs (pos 16) t (Val v) b o h c in
    let single : Single r ≡ q.form = form_is_single structs t.shape t.sizes r q.form is q.of in
    let whole : FormCells 15 b (Single r) (Val v) o h = subst (λ n. FormCells n b (Single r) (Val v) o h) (full_share q.less q.is) (subst (λ f. FormCells q.less b f (Val v) o h) (sym single) q.holds) in
    let s = scalar_stores b r v w o h F k m j f whole good aligned in
    record {
      mem = s.mem;
      is = s.is;
      here = s.here;
      sum = s.sum;
      joins = s.joins;
      fits = s.fits;
      holds = closed structs 15 t (Val w) b o s.here (Single r) (omega arith) (q.of ∙ ap Some (sym single)) s.holds;
    }

held_single : (less b : ℕ) (r : Scalar) (v : Datum) (o : ℕ) (h : Heaplet) → FormCells less b (Single r) v o h → (w : Value) × (v ≡ Val w) × ((w ≡ Vundef) ⊎ IsTrue (holds r w))
held_single less b r (Val w) o h c = (w, refl, scalar_value less b r w o h c)
held_single less b r (Number z) o h c = absurd c
held_single less b r (Seq items) o h c = absurd c
held_single less b r (Tree t) o h c = absurd c
held_single less b r (Pair x y) o h c = absurd c

pub scalars_held : (structs : Structs) (share : ℤ) (t : Sized) (r : Scalar) (v : Datum) (b o : ℕ) (h : Heaplet) → shape_scalar t.shape ≡ Some r → Cells structs share t v b o h → (w : Value) × (v ≡ Val w) × ((w ≡ Vundef) ⊎ IsTrue (holds r w))
scalars_held structs share t r v b o h is c =
    let q = opened structs share t v b o h c in
    let single : Single r ≡ q.form = form_is_single structs t.shape t.sizes r q.form is q.of in
    held_single q.less b r v o h (subst (λ f. FormCells q.less b f v o h) (sym single) q.holds)

-- ---- whole objects

pub cells_are_exact : (structs : Structs) (share : ℤ) (t : Sized) (v : Datum) (b o : ℕ) (h : Heaplet) → Cells structs share t v b o h → IsExact structs share t b o h
cells_are_exact structs share t v b o h c =
    let q = opened structs share t v b o h c in
    record {
      less = q.less;
      is = q.is;
      small = q.small;
      count = form_size q.form;
      size = size_is structs t.shape t.sizes q.form q.of;
      exact = cells_exact q.less b q.form v o h (is_form structs t q.form q.of) q.holds;
    }

pub cells_have_defaults : (structs : Structs) (share : ℤ) (t : Sized) (v : Datum) (b o : ℕ) (h : Heaplet) → Cells structs share t v b o h → Cells structs share t (default_value structs t.shape t.sizes) b o h
cells_have_defaults structs share t v b o h c =
    let q = opened structs share t v b o h c in
    again structs share q.less t (default_value structs t.shape t.sizes) b o h q.form q.is q.small q.of
    (subst (λ d. FormCells q.less b q.form d o h) (sym (default_is structs t q.form q.of)) (cells_default q.less b q.form v o h q.holds))

-- ---- arrays

-- the form of an array
pub record ArrayForm (structs : Structs) (n : ℤ) (t : Sized) (f : Form) : Type 0 where
  pub count : ℕ
  pub item : Form
  pub is : n ≡ pos count
  pub of : form_of structs t ≡ Some item
  pub same : Array item count ≡ f

pub array_form : (structs : Structs) (n : ℤ) (t : Sized) (f : Form) → form_of structs (array_of n t) ≡ Some f → ArrayForm structs n t f
array_form structs (pos n) t f e =
    let g = mapped (λ g. Array g n) (shape_form (struct_form (completes structs) structs) t.shape t.sizes) f e in
    record { count = n; item = g.0; is = refl; of = g.1; same = g.2 }
array_form structs (negsuc n) t f e = cc

has_items : (less b : ℕ) (f : Form) (n : ℕ) (v : Datum) (o : ℕ) (h : Heaplet) → FormCells less b (Array f n) v o h → (n ≡ length (items_in v)) × (v ≡ seq (items_in v))
has_items less b f n (Seq items) o h c = (sym c.0, ap Seq (same_data items))
  where
    same_data : (d : Data) → d ≡ data_of (listed d)
    same_data Empty = refl
    same_data (Item x rest) = ap (Item x) (same_data rest)
has_items less b f n (Number z) o h c = absurd c
has_items less b f n (Val v) o h c = absurd c
has_items less b f n (Tree t) o h c = absurd c
has_items less b f n (Pair x y) o h c = absurd c

pub arrays_have_items : (structs : Structs) (share n : ℤ) (t : Sized) (v : Datum) (b o : ℕ) (h : Heaplet) → Cells structs share (array_of n t) v b o h → (n ≡ pos (length (items_in v))) × (v ≡ seq (items_in v))
arrays_have_items structs share n t v b o h c =
    let q = opened structs share (array_of n t) v b o h c in
    let a = array_form structs n t q.form q.of in
    let i = has_items q.less b a.item a.count v o h (subst (λ f. FormCells q.less b f v o h) (sym a.same) q.holds) in
    (a.is ∙ ap pos i.0, i.1)

array_cells : (structs : Structs) (share : ℤ) (less : ℕ) (t : Sized) (v : Datum) (b o n : ℕ) (h : Heaplet) (f : Form) → share ≡ pos (suc less) → less < 16 → form_of structs t ≡ Some f → FormCells less b (Array f n) v o h → Cells structs share (array_of (pos n) t) v b o h
array_cells structs share less t v b o n h f is small of p = again structs share less (array_of (pos n) t) v b o h (Array f n) is small (ap (option_map (λ g. Array g n)) of) p

-- the size of a form that a type has
same_size : (structs : Structs) (t : Sized) (f : Form) (bytes : ℕ) → form_of structs t ≡ Some f → size structs t ≡ Some (pos bytes) → form_size f ≡ bytes
same_size structs t f bytes of e =
    let p : ◌≡◌ {A = Option ℤ} (Some (pos (form_size f))) (Some (pos bytes)) = sym (size_is structs t.shape t.sizes f of) ∙ e in
    cc

pub arrays_cut : (structs : Structs) (share : ℤ) (t : Sized) (m n bytes : ℕ) (v : Datum) (b o : ℕ) (h : Heaplet) → size structs t ≡ Some (pos bytes) → Cells structs share (array_of (pos (m + n)) t) v b o h →
    Sum (Cells structs share (array_of (pos m) t) (seq (take m (items_in v))) b o) (Cells structs share (array_of (pos n) t) (seq (drop m (items_in v))) b (o + bytes * m)) h
arrays_cut structs share t m n bytes v b o h e c =
    let q = opened structs share (array_of (pos (m + n)) t) v b o h c in
    let f = mapped (λ g. Array g (m + n)) (form_of structs t) q.form q.of in
    let r = cut_cells q.less b f.0 m n v o h (subst (λ f. FormCells q.less b f v o h) (sym f.2) q.holds) in (
      r.0,
      r.1,
      r.2,
      array_cells structs share q.less t (seq (take m (items_in v))) b o m r.0 f.0 q.is q.small f.1 r.3,
      array_cells structs share q.less t (seq (drop m (items_in v))) b (o + bytes * m) n r.1 f.0 q.is q.small f.1
          (subst (λ z. FormCells q.less b (Array f.0 n) (seq (drop m (items_in v))) (o + z * m) r.1) (same_size structs t f.0 bytes f.1 e) r.4),
    )

same_less : (share : ℤ) (l m : ℕ) → share ≡ pos (suc l) → share ≡ pos (suc m) → m ≡ l
same_less share l m p q =
    let e : ◌≡◌ {A = ℤ} (pos (suc m)) (pos (suc l)) = sym q ∙ p in
    let n : suc m ≡ suc l = cc in
    omega (arith, n)

-- a part of a type whose form is known, with a share that is known
known : (structs : Structs) (share : ℤ) (less : ℕ) (t : Sized) (v : Datum) (b o : ℕ) (h : Heaplet) (f : Form) → share ≡ pos (suc less) → form_of structs t ≡ Some f → Cells structs share t v b o h → FormCells less b f v o h
known structs share less t v b o h f is of c =
    let q = opened structs share t v b o h c in
    subst (λ n. FormCells n b f v o h) (same_less share less q.less is q.is) (subst (λ z. FormCells q.less b z v o h) (same_Some q.form f (sym q.of ∙ of)) q.holds)

pub arrays_joined : (structs : Structs) (share : ℤ) (t : Sized) (m n bytes : ℕ) (v w : Datum) (b o : ℕ) (h : Heaplet) → size structs t ≡ Some (pos bytes) →
    Sum (Cells structs share (array_of (pos m) t) v b o) (Cells structs share (array_of (pos n) t) w b (o + bytes * m)) h → Cells structs share (array_of (pos (m + n)) t) (seq (items_in v ++ items_in w)) b o h
arrays_joined structs share t m n bytes v w b o h e c =
    let q = opened structs share (array_of (pos m) t) v b o c.0 c.3 in
    let f = mapped (λ g. Array g m) (form_of structs t) q.form q.of in
    let first : FormCells q.less b (Array f.0 m) v o c.0 = subst (λ f. FormCells q.less b f v o c.0) (sym f.2) q.holds in
    let second : FormCells q.less b (Array f.0 n) w (o + bytes * m) c.1 = known structs share q.less (array_of (pos n) t) w b (o + bytes * m) c.1 (Array f.0 n) q.is (ap (option_map (λ g. Array g n)) f.1) c.4 in
    array_cells structs share q.less t (seq (items_in v ++ items_in w)) b o (m + n) h f.0 q.is q.small f.1
    (uncut_cells q.less b f.0 m n v w o c.0 c.1 h c.2 first
    (subst (λ z. FormCells q.less b (Array f.0 n) w (o + z * m) c.1) (sym (same_size structs t f.0 bytes f.1 e)) second))

-- ---- structs

parts_of_more : (y : Field) (ys : List Field) (name : List ℕ) (at : ℕ) (k : Form) (r : Fields) (v : Datum) → first_of (y ∷ ys) v ≡ parted (FieldAt name at k r) v
parts_of_more y ys name at k r (Pair a b) = refl
parts_of_more y ys name at k r (Number z) = refl
parts_of_more y ys name at k r (Val v) = refl
parts_of_more y ys name at k r (Seq items) = refl
parts_of_more y ys name at k r (Tree t) = refl

same_parts : (of : List ℕ → Option Form) (laid : Layout) (fs : List Field) (g : Fields) (v : Datum) → fields_form of laid fs ≡ Some g → first_of fs v ≡ parted g v
same_parts of laid [] g v e = ap (λ z. parted z v) (same_Some _ g e)
same_parts of laid (f ∷ fs) g v e =
    let first = chained (λ h. option_map (FieldAt f.name (offset_after laid (form_layout h)) h) (fields_form of (after laid (form_layout h)) fs)) (type_form of f.ty) g e in
    let h = first.0 in
    let more = mapped (FieldAt f.name (offset_after laid (form_layout h)) h) (fields_form of (after laid (form_layout h)) fs) g first.2 in
    parts_of_more f fs f.name (offset_after laid (form_layout h)) h more.0 v ∙ ap (λ z. parted z v) more.2

layout_of : (structs : Structs) (t : CType) (f : Form) → type_form (struct_form (completes structs) structs) t ≡ Some f → layout structs t ≡ Some (form_layout f)
layout_of structs t f e = layout_is structs t ∙ ap (option_map form_layout) e

module _ (structs : Structs) (share : ℤ) (less b : ℕ) (is : share ≡ pos (suc less)) (small : less < 16) where
  abbrev Laid : List ℕ → Option Form
  Laid = struct_form (completes structs) structs

  abbrev TwoOf : Layout → List Field → Field → ℕ → Heaplet → Layout → Datum × Datum → Type 0
  TwoOf laid fs f o h l p = Sum (Cells structs share (sized f.ty) p.0 b (o + offset_after laid l)) (FieldSum structs share (after laid l) fs p.1 b o) h

  split_first : (laid : Layout) (f : Field) (fs : List Field) (k : Form) (g : Fields) (v : Datum) (o : ℕ) (h : Heaplet) → type_form Laid f.ty ≡ Some k → first_of fs v ≡ parted g v →
      (t : FirstField less b (offset_after laid (form_layout k)) k g v o h) → FieldSum structs share (after laid (form_layout k)) fs t.others b o t.behind → FieldSum structs share laid (f ∷ fs) v b o h
  split_first laid f fs k g v o h e same t more =
      let l = form_layout k in
      and_some (layout structs f.ty) (λ l. IsSomeAnd (first_of fs v) (TwoOf laid fs f o h l)) l (layout_of structs f.ty k e)
      (and_some (first_of fs v) (TwoOf laid fs f o h l) (t.first, t.others) (same ∙ t.parts)
      (t.here, t.behind, t.joins, again structs share less (sized f.ty) t.first b (o + offset_after laid l) t.here k is small (shape_form_of Laid f.ty ∙ e) t.holds, more))

  split_sum : (laid : Layout) (fs : List Field) (g : Fields) (v : Datum) (o : ℕ) (h : Heaplet) → fields_form Laid laid fs ≡ Some g → FieldCells less b g v o h → FieldSum structs share laid fs v b o h
  split_sum laid [] g v o h e c = subst (λ z. FieldCells less b z v o h) (sym (same_Some _ g e)) c
  split_sum laid (f ∷ fs) g v o h e c =
      let first = chained (λ h. option_map (FieldAt f.name (offset_after laid (form_layout h)) h) (fields_form Laid (after laid (form_layout h)) fs)) (type_form Laid f.ty) g e in
      let k = first.0 in
      let l = form_layout k in
      let more = mapped (FieldAt f.name (offset_after laid l) k) (fields_form Laid (after laid l) fs) g first.2 in
      let t = take_field less b f.name (offset_after laid l) k more.0 v o h (subst (λ z. FieldCells less b z v o h) (sym more.2) c) in
      split_first laid f fs k more.0 v o h first.1 (same_parts Laid (after laid l) fs more.0 v more.1) t (split_sum (after laid l) fs more.0 t.others o t.behind more.1 t.more)

  join_sum : (laid : Layout) (fs : List Field) (g : Fields) (v : Datum) (o : ℕ) (h : Heaplet) → fields_form Laid laid fs ≡ Some g → FieldSum structs share laid fs v b o h → FieldCells less b g v o h
  join_sum laid [] g v o h e c = subst (λ z. FieldCells less b z v o h) (same_Some _ g e) c
  join_sum laid (f ∷ fs) g v o h e c =
      let first = chained (λ h. option_map (FieldAt f.name (offset_after laid (form_layout h)) h) (fields_form Laid (after laid (form_layout h)) fs)) (type_form Laid f.ty) g e in
      let k = first.0 in
      let l = form_layout k in
      let more = mapped (FieldAt f.name (offset_after laid l) k) (fields_form Laid (after laid l) fs) g first.2 in
      let found = some_and (layout structs f.ty) (λ l. IsSomeAnd (first_of fs v) (TwoOf laid fs f o h l)) c in
      let same : found.0 ≡ l = same_Some found.0 l (sym found.1 ∙ layout_of structs f.ty k first.1) in
      let p = some_and (first_of fs v) (TwoOf laid fs f o h l) (subst (λ m. IsSomeAnd (first_of fs v) (TwoOf laid fs f o h m)) same found.2) in
      subst (λ z. FieldCells less b z v o h) more.2
      (put_field less b f.name (offset_after laid l) k more.0 v p.0.0 p.0.1 o p.2.0 p.2.1 h (sym (same_parts Laid (after laid l) fs more.0 v more.1) ∙ p.1) p.2.2
      (known structs share less (sized f.ty) p.0.0 b (o + offset_after laid l) p.2.0 k is (shape_form_of Laid f.ty ∙ first.1) p.2.3)
      (join_sum (after laid l) fs more.0 p.0.1 o p.2.1 more.1 p.2.4))

abbrev PaddingOf : ℕ → ℕ → Heaplet → ℕ → Form → Type 0
PaddingOf b o h less f = FormPadding f less b o h

pub structs_split : (structs : Structs) (share : ℤ) (tag : List ℕ) (v : Datum) (b o : ℕ) (h : Heaplet) → Cells structs share (struct_of tag) v b o h →
    (fields : List Field) × (fields_of structs tag ≡ Some fields) × Sum (FieldSum structs share nothing_laid fields v b o) (Padding structs share (struct_of tag) b o) h
structs_split structs share tag v b o h c =
    let q = opened structs share (struct_of tag) v b o h c in
    let s = whole_struct structs tag q.form q.of in
    let w : FormCells q.less b (Struct s.forms) v o h = subst (λ f. FormCells q.less b f v o h) (sym s.same) q.holds in (
      s.fields,
      s.is,
      (
        w.0,
        w.1,
        w.2,
        split_sum structs share q.less b q.is q.small nothing_laid s.fields s.forms v o w.0 s.laid w.3,
        subst (λ z. Padding structs z (struct_of tag) b o w.1) (sym q.is)
            (close_part structs q.less (struct_of tag) (PaddingOf b o w.1) q.form q.small q.of (subst (λ f. FormPadding f q.less b o w.1) s.same w.4)),
      ),
    )

pub structs_joined : (structs : Structs) (share : ℤ) (tag : List ℕ) (fields : List Field) (v : Datum) (b o : ℕ) (h : Heaplet) → fields_of structs tag ≡ Some fields →
    Sum (FieldSum structs share nothing_laid fields v b o) (Padding structs share (struct_of tag) b o) h → Cells structs share (struct_of tag) v b o h
structs_joined structs share tag fields v b o h e c =
    let q = open_part structs share (struct_of tag) (PaddingOf b o c.1) c.4 in
    let s = whole_struct structs tag q.form q.of in
    let same : fields ≡ s.fields = same_Some fields s.fields (sym e ∙ s.is) in
    let pad : FormPadding (Struct s.forms) q.less b o c.1 = subst (λ f. FormPadding f q.less b o c.1) (sym s.same) q.holds in
    let sum = join_sum structs share q.less b q.is q.small nothing_laid s.fields s.forms v o c.0 s.laid (subst (λ fs. FieldSum structs share nothing_laid fs v b o c.0) same c.3) in
    again structs share q.less (struct_of tag) v b o h q.form q.is q.small q.of (subst (λ f. FormCells q.less b f v o h) s.same (c.0, c.1, c.2, sum, pad))

-- ---- shares

-- a share as a number less 1
less_of : (r : ℕ) → 1 ≤ r → (l : ℕ) × (r ≡ suc l)
less_of zero h = absurd (omega arith)
less_of (suc l) h = (l, refl)

-- the share r + s, where r and s are l and m less 1
sum_less : (l m less : ℕ) → pos (suc l + suc m) ≡ pos (suc less) → less ≡ l + m + 1
sum_less l m less e =
    let n : suc l + suc m ≡ suc less = cc in
    omega (arith, n)

pub shares_split : (structs : Structs) (r s : ℕ) (t : Sized) (v : Datum) (b o : ℕ) (h : Heaplet) → 1 ≤ r → 1 ≤ s → Cells structs (pos (r + s)) t v b o h → Sum (Cells structs (pos r) t v b o) (Cells structs (pos s) t v b o) h
shares_split structs zero s t v b o h p q c = absurd (omega arith)
shares_split structs (suc l) zero t v b o h p q c = absurd (omega arith)
shares_split structs (suc l) (suc m) t v b o h p q c =
    let w = opened structs (pos (suc l + suc m)) t v b o h c in
    let less = sum_less l m w.less w.is in
    let small = w.small in
    let x = split_cells l m b (omega (arith, less, small)) w.form v o h (subst (λ n. FormCells n b w.form v o h) less w.holds) in
    (x.0, x.1, x.2, closed structs l t v b o x.0 w.form (omega (arith, less, small)) w.of x.3, closed structs m t v b o x.1 w.form (omega (arith, less, small)) w.of x.4)

sum_is : (l m : ℕ) → pos (suc (l + m + 1)) ≡ pos (suc l + suc m)
sum_is l m = ap pos (omega arith)

pub shares_joined : (structs : Structs) (r s : ℕ) (t : Sized) (v : Datum) (b o : ℕ) (h : Heaplet) → r + s ≤ 16 → Sum (Cells structs (pos r) t v b o) (Cells structs (pos s) t v b o) h → Cells structs (pos (r + s)) t v b o h
shares_joined structs zero s t v b o h le c = absurd c.3
shares_joined structs (suc l) zero t v b o h le c = absurd c.4
shares_joined structs (suc l) (suc m) t v b o h le c =
    let w = opened structs (pos (suc l)) t v b o c.0 c.3 in
    let one = known structs (pos (suc l)) l t v b o c.0 w.form refl w.of c.3 in
    let two = known structs (pos (suc m)) m t v b o c.1 w.form refl w.of c.4 in
    subst (λ z. Cells structs z t v b o h) (sum_is l m)
    (closed structs (l + m + 1) t v b o h w.form (omega arith) w.of (join_cells l m b (omega arith) w.form v o c.0 c.1 h c.2 one two))

open_padding : (structs : Structs) (share : ℤ) (t : Sized) (b o : ℕ) (h : Heaplet) → Padding structs share t b o h → Opened structs share t (PaddingOf b o h)
open_padding structs share t b o h c = open_part structs share t (PaddingOf b o h) c

split_padding : (l m b : ℕ) (f : Form) (o : ℕ) (h : Heaplet) → l + m + 2 ≤ 16 → FormPadding f (l + m + 1) b o h → Sum (FormPadding f l b o) (FormPadding f m b o) h
split_padding l m b (Single r) o h fits c = absurd c
split_padding l m b (Array f n) o h fits c = absurd c
split_padding l m b (Struct fields) o h fits c =
    let x = split_exact l m b (is_padding o fields) h fits c in
    (shared l h, shared m h, x.0, x.1, x.2)

join_padding : (l m b : ℕ) (f : Form) (o : ℕ) (h : Heaplet) → Sum (FormPadding f l b o) (FormPadding f m b o) h → FormPadding f (l + m + 1) b o h
join_padding l m b (Single r) o h c = absurd c.3
join_padding l m b (Array f n) o h c = absurd c.3
join_padding l m b (Struct fields) o h c = join_exact l m b (is_padding o fields) c.0 c.1 h c.2 c.3 c.4

pub padding_split : (structs : Structs) (r s : ℕ) (t : Sized) (b o : ℕ) (h : Heaplet) → 1 ≤ r → 1 ≤ s → Padding structs (pos (r + s)) t b o h → Sum (Padding structs (pos r) t b o) (Padding structs (pos s) t b o) h
padding_split structs zero s t b o h p q c = absurd (omega arith)
padding_split structs (suc l) zero t b o h p q c = absurd (omega arith)
padding_split structs (suc l) (suc m) t b o h p q c =
    let w = open_padding structs (pos (suc l + suc m)) t b o h c in
    let less = sum_less l m w.less w.is in
    let small = w.small in
    let x = split_padding l m b w.form o h (omega (arith, less, small)) (subst (λ n. FormPadding w.form n b o h) less w.holds) in
    (x.0, x.1, x.2, close_part structs l t (PaddingOf b o x.0) w.form (omega (arith, less, small)) w.of x.3, close_part structs m t (PaddingOf b o x.1) w.form (omega (arith, less, small)) w.of x.4)

pub padding_joined : (structs : Structs) (r s : ℕ) (t : Sized) (b o : ℕ) (h : Heaplet) → r + s ≤ 16 → Sum (Padding structs (pos r) t b o) (Padding structs (pos s) t b o) h → Padding structs (pos (r + s)) t b o h
padding_joined structs zero s t b o h le c = absurd c.3
padding_joined structs (suc l) zero t b o h le c = absurd c.4
padding_joined structs (suc l) (suc m) t b o h le c =
    let w = open_padding structs (pos (suc l)) t b o c.0 c.3 in
    let u = open_padding structs (pos (suc m)) t b o c.1 c.4 in
    let one : FormPadding w.form l b o c.0 = subst (λ n. FormPadding w.form n b o c.0) (same_less (pos (suc l)) l w.less refl w.is) w.holds in
    let two : FormPadding w.form m b o c.1 = subst (λ n. FormPadding w.form n b o c.1) (same_less (pos (suc m)) m u.less refl u.is)
    (subst (λ f. FormPadding f u.less b o c.1) (same_Some u.form w.form (sym u.of ∙ w.of)) u.holds) in
    subst (λ z. Padding structs z t b o h) (sum_is l m)
    (close_part structs (l + m + 1) t (PaddingOf b o h) w.form (omega arith) w.of (join_padding l m b w.form o h (c.0, c.1, c.2, one, two)))

-- ---- paths

pub paths_focused : (structs : Structs) (share : ℤ) (t : Sized) (path : List Step) (f : Form) (v : Datum) (b o : ℕ) (h : Heaplet) → form_of structs t ≡ Some f → is_legal structs t path ≡ true → Cells structs share t v b o h → FocusAt structs share t path f v b o h
paths_focused structs share t path f v b o h e l c =
    let q = opened structs share t v b o h c in
    let p = path_found structs path t f e l in
    let z = path_focus q.less b path f p.found v o h p.is (known structs share q.less t v b o h f q.is e c) in
    record {
      type = p.type;
      nested = p.nested;
      shift = p.found.offset;
      shifted = p.place;
      focus = record {
        here = z.here;
        others = z.others;
        joins = z.joins;
        holds = again structs share q.less p.type (item_at path f v) b (o + p.found.offset) z.here p.found.form q.is q.small p.form z.holds;
        back = λ d g k j x. again structs share q.less t (with_at path f v d) b o k f q.is q.small e
            (z.back d g k j (known structs share q.less p.type d b (o + p.found.offset) g p.found.form q.is p.form x));
      };
    }

-- what a test gives, where there is something to test
pub tested : {A : Type 0} (o : Option A) (F : A → Bool) → option_map_or F o false ≡ true → (x : A) × (o ≡ Some x) × (F x ≡ true)
tested None F e = cc
tested (Some x) F e = (x, refl, e)

pub four_parts : (p q r s : Bool) → (p && q && r && s) ≡ true → (p ≡ true) × (q ≡ true) × (r ≡ true) × (s ≡ true)
four_parts true true true true e = (refl, refl, refl, refl)
four_parts true true true false e = cc
four_parts true true false s e = cc
four_parts true false r s e = cc
four_parts false q r s e = cc

pub paths_aligned : (structs : Structs) (t u : Sized) (path : List Step) (b o d : ℕ) (r : Scalar) → compatible structs t path (Vptr b o) ≡ true → type_at structs t path ≡ Some u → offset_at structs t path ≡ Some (pos d) → shape_scalar u.shape ≡ Some r →
    is_aligned (chunk r) (o + d) ≡ true
paths_aligned structs t u path b o d r ok nested shifted is =
    let parts = four_parts (is_aligned_for structs t o) (has_room structs t o) (none_negative t.sizes) (is_legal structs t path) ok in
    let room = tested (size structs t) (λ n. int_lt (pos o +ℤ n) (pos (2 ^ 64))) parts.1 in
    let f = has_form structs t.shape t.sizes room.0 room.1 parts.2 in
    let al = tested (align structs t) (λ a. o % a == 0) parts.0 in
    let same : al.0 ≡ (form_layout f.0).align = same_Some al.0 (form_layout f.0).align (sym al.1 ∙ align_is structs t.shape t.sizes f.0 f.1) in
    let divides : (form_layout f.0).align ∣ o = subst (λ a. a ∣ o) same (dvd_of_mod-eq-zero al.0 (eqb-true (o % al.0) 0 al.2)) in
    let p = path_found structs path t f.0 f.1 parts.3 in
    let place = path_placed path f.0 p.found o (is_form structs t f.0 f.1) divides p.is in
    let type : p.type ≡ u = same_Some p.type u (sym p.nested ∙ nested) in
    let single : Single r ≡ p.found.form = form_is_single structs u.shape u.sizes r p.found.form is (subst (λ z. form_of structs z ≡ Some p.found.form) type p.form) in
    let shift : p.found.offset ≡ d = same_shift p.found.offset d (sym p.place ∙ shifted) in
    subst (λ n. is_aligned (chunk r) (o + n) ≡ true) shift (aligned_scalar r (o + p.found.offset) (subst (λ g. (form_layout g).align ∣ o + p.found.offset) (sym single) place.aligned))
  where
    same_shift : (m n : ℕ) → ◌≡◌ {A = Option ℤ} (Some (pos m)) (Some (pos n)) → m ≡ n
    same_shift m n e = cc
