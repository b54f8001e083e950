-- Forms: they agree with the layout of types, and their fields stand in order.
use Rattle.std.proofs.Common.{◌≡◌, ℕ, zero, suc, ◌≤◌, max, ℤ, pos, negsuc, ◌*ℤ◌, true, List, [], ◌∷◌, Option, None, Some, option_map, option_and_then, refl, sym, ◌∙◌, ap, arith}
use Rattle.std.proofs.lemmas.Option.{same_Some}
use Rattle.floyd_ctypes.specs.declared.ctype.CType.{CType, Row_of-CType, more_of-CType, end_of-CType}
use Rattle.floyd_ctypes.specs.declared.ctype.CType as c
use Rattle.floyd_ctypes.specs.declared.field.Field.{Field}
use Rattle.floyd_ctypes.specs.declared.layout.Layout.{Layout}
use Rattle.floyd_ctypes.specs.Layout.{layout, layout_by, struct_layout, fields_layout, laid_after, repeated, nothing_laid, offset_after, after, padded}
use Rattle.floyd_ctypes.specs.Structs.{Structs, fields_of, completes}
use Rattle.floyd_tree_sorts.specs.declared.shape.Shape.{Shape, Void, Int, Pointer', Array', Struct as StructShape, Function', more_of-Shape, end_of-Shape}
use Rattle.floyd_assert_cells.specs.Types.{shape_of, sizes_of, size_by, size, align_by, none_negative}
use Rattle.floyd_assert_cells.specs.Forms.{Form, Array, Struct, Fields, EndAt, FieldAt, end_of, form_layout, align_of, form_size, type_form, fields_form, shape_form, struct_form}

-- ---- options

pub mapped : {A B : Type 0} (f : A → B) (o : Option A) (y : B) → option_map f o ≡ Some y → (x : A) × (o ≡ Some x) × (f x ≡ y)
mapped f None y e = cc
mapped f (Some x) y e = (x, refl, same_Some (f x) y e)

pub chained : {A B : Type 0} (f : A → Option B) (o : Option A) (y : B) → option_and_then f o ≡ Some y → (x : A) × (o ≡ Some x) × (f x ≡ Some y)
chained f None y e = cc
chained f (Some x) y e = (x, refl, e)

-- ---- layouts

-- what the fields come to behind what is laid, by their forms
abbrev laid_form : Layout → Fields → Layout
laid_form laid g = record { size = end_of g; align = max laid.align (align_of g) }

one_more : (laid : Layout) (name : List ℕ) (at : ℕ) (g : Form) (o : Option Fields) → option_map (laid_form (after laid (form_layout g))) o ≡ option_map (laid_form laid) (option_map (FieldAt name at g) o)
one_more laid name at g None = refl
one_more laid name at g (Some rest) = ap (λ n. Some (record { size = end_of rest; align = n })) (omega arith)

field_agrees : (L : CType → Option Layout) (of : List ℕ → Option Form) (laid : Layout) (f : Field) (fs : List Field) (g : Option Form) → L f.ty ≡ option_map form_layout g →
    ((now : Layout) → 1 ≤ now.align → option_map padded (laid_after L now fs) ≡ option_map (laid_form now) (fields_form of now fs)) → 1 ≤ laid.align →
    option_map padded (laid_after L laid (f ∷ fs))
    ≡ option_map (laid_form laid) (option_and_then (λ g. option_map (FieldAt f.name (offset_after laid (form_layout g)) g) (fields_form of (after laid (form_layout g)) fs)) g)
field_agrees L of laid f fs None e more some = ap (λ o. option_map padded (option_and_then (λ l. laid_after L (after laid l) fs) o)) e
field_agrees L of laid f fs (Some g) e more some =
    let l = form_layout g in
    ap (λ o. option_map padded (option_and_then (λ l. laid_after L (after laid l) fs) o)) e
    ∙ more (after laid l) (omega arith)
    ∙ one_more laid f.name (offset_after laid l) g (fields_form of (after laid l) fs)

pub fields_agree : (L : CType → Option Layout) (of : List ℕ → Option Form) → ((t : CType) → L t ≡ option_map form_layout (type_form of t)) → (laid : Layout) (fs : List Field) → 1 ≤ laid.align →
    option_map padded (laid_after L laid fs) ≡ option_map (laid_form laid) (fields_form of laid fs)
fields_agree L of same laid [] some = ap (λ n. Some (record { size = (padded laid).size; align = n })) (omega arith)
fields_agree L of same laid (f ∷ fs) some =
    field_agrees L of laid f fs (type_form of f.ty) (same f.ty) (λ now more. fields_agree L of same now fs more) some

align_some : (g : Fields) → 1 ≤ align_of g
align_some (EndAt size) = omega arith
align_some (FieldAt name at f rest) =
    let h = align_some rest in
    omega arith

first_laid : (o : Option Fields) → option_map (laid_form nothing_laid) o ≡ option_map form_layout (option_map Struct o)
first_laid None = refl
first_laid (Some g) =
    let h = align_some g in
    ap (λ n. Some (record { size = end_of g; align = n })) (omega arith)

type_agrees : (L : List ℕ → Option Layout) (of : List ℕ → Option Form) → ((tag : List ℕ) → L tag ≡ option_map form_layout (of tag)) → (t : CType) → layout_by L t ≡ option_map form_layout (type_form of t)
type_agrees L of same c.Void = refl
type_agrees L of same (c.Int k) = refl
type_agrees L of same (c.Pointer' p to) = refl
type_agrees L of same (c.Array' p (more_of-CType t end_of-CType) n) = ap (option_map (repeated n)) (type_agrees L of same t) ∙ repeats (type_form of t) n
  where
    repeats : (o : Option Form) (n : ℕ) → option_map (repeated n) (option_map form_layout o) ≡ option_map form_layout (option_map (λ f. Array f n) o)
    repeats None n = refl
    repeats (Some f) n = refl
type_agrees L of same (c.Struct tag) = same tag
type_agrees L of same (c.Function' shape ps p r) = refl

complete_agrees : (L : CType → Option Layout) (of : List ℕ → Option Form) → ((t : CType) → L t ≡ option_map form_layout (type_form of t)) → (fs : Option (List Field)) →
    option_and_then (fields_layout L) fs ≡ option_map form_layout (option_and_then (λ fields. option_map Struct (fields_form of nothing_laid fields)) fs)
complete_agrees L of same None = refl
complete_agrees L of same (Some fs) = fields_agree L of same nothing_laid fs (omega arith) ∙ first_laid (fields_form of nothing_laid fs)

struct_agrees : (depth : ℕ) (structs : Structs) (tag : List ℕ) → struct_layout depth structs tag ≡ option_map form_layout (struct_form depth structs tag)
struct_agrees zero structs tag = refl
struct_agrees (suc depth) structs tag =
    complete_agrees (layout_by (struct_layout depth structs)) (struct_form depth structs)
    (type_agrees (struct_layout depth structs) (struct_form depth structs) (struct_agrees depth structs))
    (fields_of structs tag)

-- the layout of a type of C is that of its form
pub layout_is : (structs : Structs) (t : CType) → layout structs t ≡ option_map form_layout (type_form (struct_form (completes structs) structs) t)
layout_is structs t = type_agrees (struct_layout (completes structs) structs) (struct_form (completes structs) structs) (struct_agrees (completes structs) structs) t

-- ---- shapes

-- the form of a type of C is that of its shape and sizes
pub shape_form_of : (of : List ℕ → Option Form) (t : CType) → shape_form of (shape_of t) (sizes_of t) ≡ type_form of t
shape_form_of of c.Void = refl
shape_form_of of (c.Int k) = refl
shape_form_of of (c.Pointer' p (more_of-CType t end_of-CType)) = refl
shape_form_of of (c.Array' p (more_of-CType t end_of-CType) n) = ap (option_map (λ f. Array f n)) (shape_form_of of t)
shape_form_of of (c.Struct tag) = refl
shape_form_of of (c.Function' shape ps p (more_of-CType r end_of-CType)) = refl

-- the layout of what has a form
pub size_is : (structs : Structs) (t : Shape) (sizes : List ℤ) (f : Form) → shape_form (struct_form (completes structs) structs) t sizes ≡ Some f → size_by structs t sizes ≡ Some (pos (form_size f))
size_is structs Void sizes f e = cc
size_is structs (Int k) sizes f e = ap (λ g. Some (pos (form_size g))) (same_Some _ f e)
size_is structs (Pointer' p to) sizes f e = ap (λ g. Some (pos (form_size g))) (same_Some _ f e)
size_is structs (Array' p (more_of-Shape t end_of-Shape)) [] f e = cc
size_is structs (Array' p (more_of-Shape t end_of-Shape)) (pos n ∷ sizes) f e =
    let g = mapped (λ g. Array g n) (shape_form (struct_form (completes structs) structs) t sizes) f e in
    ap (option_map (λ bytes. bytes *ℤ pos n)) (size_is structs t sizes g.0 g.1) ∙ ap (λ h. Some (pos (form_size h))) g.2
size_is structs (Array' p (more_of-Shape t end_of-Shape)) (negsuc n ∷ sizes) f e = cc
size_is structs (StructShape tag) sizes f e = ap (option_map (λ l. pos l.size)) (layout_is structs (c.Struct tag)) ∙ ap (λ o. option_map (λ l. pos l.size) (option_map form_layout o)) e
size_is structs (Function' shape ps p r) sizes f e = cc

pub align_is : (structs : Structs) (t : Shape) (sizes : List ℤ) (f : Form) → shape_form (struct_form (completes structs) structs) t sizes ≡ Some f → align_by structs t ≡ Some (form_layout f).align
align_is structs Void sizes f e = cc
align_is structs (Int k) sizes f e = ap (λ g. Some (form_layout g).align) (same_Some _ f e)
align_is structs (Pointer' p to) sizes f e = ap (λ g. Some (form_layout g).align) (same_Some _ f e)
align_is structs (Array' p (more_of-Shape t end_of-Shape)) [] f e = cc
align_is structs (Array' p (more_of-Shape t end_of-Shape)) (pos n ∷ sizes) f e =
    let g = mapped (λ g. Array g n) (shape_form (struct_form (completes structs) structs) t sizes) f e in
    align_is structs t sizes g.0 g.1 ∙ ap (λ h. Some (form_layout h).align) g.2
align_is structs (Array' p (more_of-Shape t end_of-Shape)) (negsuc n ∷ sizes) f e = cc
align_is structs (StructShape tag) sizes f e = ap (option_map (λ l. l.align)) (layout_is structs (c.Struct tag)) ∙ ap (λ o. option_map (λ l. l.align) (option_map form_layout o)) e
align_is structs (Function' shape ps p r) sizes f e = cc

some_layout : (o : Option Form) (n : ℤ) → option_map (λ l. pos l.size) (option_map form_layout o) ≡ Some n → (f : Form) × (o ≡ Some f)
some_layout None n e = cc
some_layout (Some f) n e = (f, refl)

-- a type that has a size, with array sizes that are not negative, has a form
pub has_form : (structs : Structs) (t : Shape) (sizes : List ℤ) (n : ℤ) → size_by structs t sizes ≡ Some n → none_negative sizes ≡ true → (f : Form) × (shape_form (struct_form (completes structs) structs) t sizes ≡ Some f)
has_form structs Void sizes n e s = cc
has_form structs (Int k) sizes n e s = (_, refl)
has_form structs (Pointer' p to) sizes n e s = (_, refl)
has_form structs (Array' p (more_of-Shape t end_of-Shape)) [] n e s = cc
has_form structs (Array' p (more_of-Shape t end_of-Shape)) (pos m ∷ sizes) n e s =
    let g = mapped (λ bytes. bytes *ℤ pos m) (size_by structs t sizes) n e in
    let f = has_form structs t sizes g.0 g.1 s in
    (Array f.0 m, ap (option_map (λ g. Array g m)) f.1)
has_form structs (Array' p (more_of-Shape t end_of-Shape)) (negsuc m ∷ sizes) n e s = cc
has_form structs (StructShape tag) sizes n e s =
    some_layout (struct_form (completes structs) structs tag) n (sym (ap (option_map (λ l. pos l.size)) (layout_is structs (c.Struct tag))) ∙ e)
has_form structs (Function' shape ps p r) sizes n e s = cc

-- ---- more structs in one another

abbrev pub Keeps : (List ℕ → Option Form) → (List ℕ → Option Form) → Type 0
Keeps of by = (tag : List ℕ) (f : Form) → of tag ≡ Some f → by tag ≡ Some f

type_kept : (of by : List ℕ → Option Form) → Keeps of by → (t : CType) (f : Form) → type_form of t ≡ Some f → type_form by t ≡ Some f
type_kept of by keeps c.Void f e = e
type_kept of by keeps (c.Int k) f e = e
type_kept of by keeps (c.Pointer' p to) f e = e
type_kept of by keeps (c.Array' p (more_of-CType t end_of-CType) n) f e =
    let g = mapped (λ g. Array g n) (type_form of t) f e in
    ap (option_map (λ g. Array g n)) (type_kept of by keeps t g.0 g.1) ∙ ap Some g.2
type_kept of by keeps (c.Struct tag) f e = keeps tag f e
type_kept of by keeps (c.Function' shape ps p r) f e = e

fields_kept : (of by : List ℕ → Option Form) → Keeps of by → (laid : Layout) (fs : List Field) (g : Fields) → fields_form of laid fs ≡ Some g → fields_form by laid fs ≡ Some g
fields_kept of by keeps laid [] g e = e
fields_kept of by keeps laid (f ∷ fs) g e =
    let first = chained (λ h. option_map (FieldAt f.name (offset_after laid (form_layout h)) h) (fields_form of (after laid (form_layout h)) fs)) (type_form of f.ty) g e in
    let h = first.0 in
    let more = mapped (FieldAt f.name (offset_after laid (form_layout h)) h) (fields_form of (after laid (form_layout h)) fs) g first.2 in
    ap (option_and_then (λ h. option_map (FieldAt f.name (offset_after laid (form_layout h)) h) (fields_form by (after laid (form_layout h)) fs))) (type_kept of by keeps f.ty h first.1)
    ∙ ap (option_map (FieldAt f.name (offset_after laid (form_layout h)) h)) (fields_kept of by keeps (after laid (form_layout h)) fs more.0 more.1)
    ∙ ap Some more.2

-- the fields of the struct that a form is, where at most `depth` structs stand one in another below it
pub record StructForm (depth : ℕ) (structs : Structs) (tag : List ℕ) (f : Form) : Type 0 where
  pub fields : List Field
  pub is : fields_of structs tag ≡ Some fields
  pub forms : Fields
  pub laid : fields_form (struct_form depth structs) nothing_laid fields ≡ Some forms
  pub same : Struct forms ≡ f

pub opened : (depth : ℕ) (structs : Structs) (tag : List ℕ) (f : Form) → struct_form (suc depth) structs tag ≡ Some f → StructForm depth structs tag f
opened depth structs tag f e =
    let fs = chained (λ fields. option_map Struct (fields_form (struct_form depth structs) nothing_laid fields)) (fields_of structs tag) f e in
    let g = mapped Struct (fields_form (struct_form depth structs) nothing_laid fs.0) f fs.2 in
    record { fields = fs.0; is = fs.1; forms = g.0; laid = g.1; same = g.2 }

pub deeper_keeps : (depth : ℕ) (structs : Structs) → Keeps (struct_form depth structs) (struct_form (suc depth) structs)
deeper_keeps zero structs tag f e = cc
deeper_keeps (suc depth) structs tag f e =
    let s = opened depth structs tag f e in
    ap (option_and_then (λ fields. option_map Struct (fields_form (struct_form (suc depth) structs) nothing_laid fields))) s.is
    ∙ ap (option_map Struct) (fields_kept (struct_form depth structs) (struct_form (suc depth) structs) (deeper_keeps depth structs) nothing_laid s.fields s.forms s.laid)
    ∙ ap Some s.same

whole_by : (depth : ℕ) (structs : Structs) (tag : List ℕ) (f : Form) → struct_form depth structs tag ≡ Some f → StructForm depth structs tag f
whole_by zero structs tag f e = cc
whole_by (suc depth) structs tag f e =
    let s = opened depth structs tag f e in
    record {
      fields = s.fields;
      is = s.is;
      forms = s.forms;
      same = s.same;
      laid = fields_kept (struct_form depth structs) (struct_form (suc depth) structs) (deeper_keeps depth structs) nothing_laid s.fields s.forms s.laid;
    }

-- a struct that has a form has the forms of its fields, laid one after the other
pub whole_struct : (structs : Structs) (tag : List ℕ) (f : Form) → struct_form (completes structs) structs tag ≡ Some f → StructForm (completes structs) structs tag f
whole_struct structs = whole_by (completes structs) structs
