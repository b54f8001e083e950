-- Structs whose fields fill them.
use Rattle.std.proofs.Common.{◌≡◌, ℕ, zero, suc, ◌+◌, ◌<◌, ◌≤◌, Bool, true, false, not, ◌&&◌, ◌||◌, ℤ, pos, negsuc, List, [], ◌∷◌, length, Option, Some, None, refl, sym, ap, subst, ◌∙◌, inl, inr, arith, eqb-true}
use Rattle.std.specs.Prelude.{nat_eq, ◌==◌, unwrap_or, option_map, IsSome, IsSomeAnd}
use Rattle.std.proofs.lemmas.Bool.{cases_lt}
use Rattle.std.proofs.lemmas.Option.{same_Some}
use Rattle.floyd_ctypes.specs.declared.ctype.CType as c
use Rattle.floyd_ctypes.specs.declared.field.Field.{Field}
use Rattle.floyd_ctypes.specs.declared.layout.Layout.{Layout}
use Rattle.floyd_ctypes.specs.Layout.{IsLaidOut, after, fields_layout, layout, nothing_laid, offset_after, size}
use Rattle.floyd_ctypes.specs.Structs.{Structs, completes, fields_of}
use Rattle.floyd_clight_heap.specs.Heaplet.{Cell, Heaplet, Joins, empty}
use Rattle.floyd_clight_heap.proofs.Sums.{one_sum, right_empty}
use Rattle.floyd_tree_sorts.specs.declared.shape.Shape.{Struct as StructShape}
use Rattle.floyd_tree_values.specs.Data.{Datum}
use Rattle.floyd_assert_cells.specs.Cells.{Cells, FormPadding, HasExactly, IsCell, Padding, in_fields, is_padding, within}
use Rattle.floyd_assert_cells.specs.Forms.{EndAt, FieldAt, Fields, Form, Struct, end_of, fields_form, form_layout, form_of, form_size, struct_form, type_form}
use Rattle.floyd_assert_cells.specs.Laws.{FieldSum, Sum, first_of, struct_of}
use Rattle.floyd_assert_cells.specs.Types.{sized}
use Rattle.floyd_assert_cells.proofs.Exact.{exact_empty, within_from, within_parts}
use Rattle.floyd_assert_cells.proofs.FormLaws.{chained, has_form, layout_is, mapped, whole_struct}
use Rattle.floyd_assert_cells.proofs.FormOrders.{IsFields, IsForm, is_form}
use Rattle.floyd_assert_cells.proofs.ObjectLaws.{opened, structs_joined, structs_split}
use Rattle.floyd_arrays_structs.specs.StructParts.{field_bytes, has_padding}

in_some : {A : Type 0} (o : Option A) (P : A → Type 0) → IsSomeAnd o P → (a : A) × (o ≡ Some a) × P a
in_some None P p = absurd p
in_some (Some a) P p = (a, refl, p)

to_some : {A : Type 0} (o : Option A) (P : A → Type 0) (a : A) → o ≡ Some a → P a → IsSomeAnd o P
to_some o P a e p = subst (λ x. IsSomeAnd x P) (sym e) p

-- ---- fields that fill a struct

abbrev sizes_in : Fields → ℕ
sizes_in (EndAt size) = 0
sizes_in (FieldAt name at f rest) = form_size f + sizes_in rest

bound : (from : ℕ) (fields : Fields) → IsFields from fields → from + sizes_in fields ≤ end_of fields
bound from (EndAt size) h = omega (arith, h)
bound from (FieldAt name at f rest) h = omega (arith, h.0, bound (at + form_size f) rest h.3)

or_right : (a b : Bool) → b ≡ true → (a || b) ≡ true
or_right true b e = refl
or_right false b e = e

or_left : (a b : Bool) → a ≡ true → (a || b) ≡ true
or_left true b e = refl
or_left false b e = absurd cc

-- each place of the struct is one of a field
filled : (o from y : ℕ) (fields : Fields) → IsFields from fields → from + sizes_in fields ≡ end_of fields → o + from ≤ y → y < o + end_of fields → in_fields o fields y ≡ true
filled o from y (EndAt size) h e l m = absurd (omega (arith, e, l, m))
filled o from y (FieldAt name at f rest) h e l m =
    let more : at + form_size f + sizes_in rest ≤ end_of rest = bound (at + form_size f) rest h.3 in
    let here : at ≡ from = omega (arith, h.0, e, more) in
    elim (cases_lt y (o + at + form_size f)) [
      | inl less ↦ or_left (within (o + at) (form_size f) y) (in_fields o rest y) (within_from (o + at) (form_size f) y (omega (arith, l, here)) (omega (arith, less)))
      | inr past ↦
          or_right (within (o + at) (form_size f) y) (in_fields o rest y)
          (filled o (at + form_size f) y rest h.3 (omega (arith, e, here)) (omega (arith, past)) m)
    ]

nowhere_by : (a b : Bool) → (a ≡ true → b ≡ true) → (a && not b) ≡ false
nowhere_by true b h = ap not (h refl)
nowhere_by false b h = refl

no_padding : (o : ℕ) (fields : Fields) → IsFields 0 fields → sizes_in fields ≡ end_of fields → (y : ℕ) → is_padding o fields y ≡ false
no_padding o fields h e y =
    nowhere_by (within o (end_of fields) y) (in_fields o fields y)
    (λ w. let p = within_parts o (end_of fields) y w in filled o 0 y fields h (omega (arith, e)) (omega (arith, p.0)) p.1)

-- ---- no byte at all

no_cell : (less : ℕ) (t b : Bool) (k : Option Cell) → b ≡ false → IsCell less (t && b) k → k ≡ None
no_cell less true true k e w = absurd cc
no_cell less true false k e w = w
no_cell less false b k e w = w

is_empty : (less b : ℕ) (test : ℕ → Bool) (h : Heaplet) → ((o : ℕ) → test o ≡ false) → HasExactly less b test h → h ≡ empty
is_empty less b test h none w = λ i x o. no_cell less (x == b) (test o) (h x o) (none o) (w.at x o) i

-- ---- sizes

size_by_layout : (structs : Structs) (t : c.CType) (l : Layout) → layout structs t ≡ Some l → unwrap_or (size structs t) 0 ≡ l.size
size_by_layout structs t l e = ap (λ (o : Option Layout). unwrap_or (option_map (λ (x : Layout). x.size) o) 0) e

bytes_are : (structs : Structs) (laid : Layout) (fs : List Field) (g : Fields) → fields_form (struct_form (completes structs) structs) laid fs ≡ Some g → field_bytes structs fs ≡ sizes_in g
bytes_are structs laid [] g e = ap sizes_in (same_Some _ g e)
bytes_are structs laid (f ∷ fs) g e =
    let of = struct_form (completes structs) structs in
    let first = chained (λ h. option_map (FieldAt f.name (offset_after laid (form_layout h)) h) (fields_form of (after laid (form_layout h)) fs)) (type_form of f.ty) g e in
    let k = first.0 in
    let more = mapped (FieldAt f.name (offset_after laid (form_layout k)) k) (fields_form of (after laid (form_layout k)) fs) g first.2 in
    let here : unwrap_or (size structs f.ty) 0 ≡ form_size k = size_by_layout structs f.ty (form_layout k) (layout_is structs f.ty ∙ ap (option_map form_layout) first.1) in
    ap (λ n. n + field_bytes structs fs) here
    ∙ ap (λ n. form_size k + n) (bytes_are structs (after laid (form_layout k)) fs more.0 more.1)
    ∙ ap sizes_in more.2

struct_size : (structs : Structs) (tag : List ℕ) (g : Fields) → struct_form (completes structs) structs tag ≡ Some (Struct g) → unwrap_or (size structs (c.Struct tag)) 0 ≡ end_of g
struct_size structs tag g e = size_by_layout structs (c.Struct tag) (form_layout (Struct g)) (layout_is structs (c.Struct tag) ∙ ap (option_map form_layout) e)

not_false : (b : Bool) → not b ≡ false → b ≡ true
not_false true e = refl
not_false false e = absurd cc

fills : (structs : Structs) (tag : List ℕ) (fields : List Field) → has_padding structs tag fields ≡ false → field_bytes structs fields ≡ unwrap_or (size structs (c.Struct tag)) 0
fills structs tag fields e =
    eqb-true (field_bytes structs fields) (unwrap_or (size structs (c.Struct tag)) 0) (not_false (nat_eq (field_bytes structs fields) (unwrap_or (size structs (c.Struct tag)) 0)) e)

-- ---- structs

-- a struct that has a form, whose fields fill it, has padding nowhere
record Whole (structs : Structs) (tag : List ℕ) (f : Form) : Type 0 where
  forms : Fields
  same : Struct forms ≡ f
  none : (o y : ℕ) → is_padding o forms y ≡ false

whole : (structs : Structs) (tag : List ℕ) (fields : List Field) (f : Form) → fields_of structs tag ≡ Some fields → has_padding structs tag fields ≡ false → form_of structs (struct_of tag) ≡ Some f → Whole structs tag f
whole structs tag fields f is full e =
    let s = whole_struct structs tag f e in
    let listed : s.fields ≡ fields = same_Some s.fields fields (sym s.is ∙ is) in
    let ordered : IsForm (Struct s.forms) = subst IsForm (sym s.same) (is_form structs (struct_of tag) f e) in
    let bytes : field_bytes structs fields ≡ sizes_in s.forms = ap (field_bytes structs) (sym listed) ∙ bytes_are structs nothing_laid s.fields s.forms s.laid in
    let end : unwrap_or (size structs (c.Struct tag)) 0 ≡ end_of s.forms = struct_size structs tag s.forms (e ∙ ap (λ (x : Form). Some x) (sym s.same)) in
    record { forms = s.forms; same = s.same; none = λ o. no_padding o s.forms ordered.0 (sym bytes ∙ fills structs tag fields full ∙ end) }

padding_is_empty : (structs : Structs) (share : ℤ) (tag : List ℕ) (fields : List Field) (b o : ℕ) (h : Heaplet) → fields_of structs tag ≡ Some fields → has_padding structs tag fields ≡ false →
    Padding structs share (struct_of tag) b o h → h ≡ empty
padding_is_empty structs (pos zero) tag fields b o h is full p = absurd p
padding_is_empty structs (negsuc n) tag fields b o h is full p = absurd p
padding_is_empty structs (pos (suc less)) tag fields b o h is full p =
    let f = in_some (form_of structs (struct_of tag)) (λ f. FormPadding f less b o h) p.1 in
    let w = whole structs tag fields f.0 is full f.1 in
    is_empty less b (is_padding o w.forms) h (w.none o) (subst (λ (g : Form). FormPadding g less b o h) (sym w.same) f.2)

pub filled_is_split : (structs : Structs) (share : ℤ) (tag : List ℕ) (fields : List Field) (v : Datum) (b o : ℕ) (h : Heaplet) → fields_of structs tag ≡ Some fields → has_padding structs tag fields ≡ false →
    Cells structs share (struct_of tag) v b o h → FieldSum structs share nothing_laid fields v b o h
filled_is_split structs share tag fields v b o h is full cells =
    let s = structs_split structs share tag v b o h cells in
    let listed : s.0 ≡ fields = same_Some s.0 fields (sym s.1 ∙ is) in
    let sum = s.2 in
    let none : sum.1 ≡ empty = padding_is_empty structs share tag fields b o sum.1 is full sum.4 in
    let same : sum.0 ≡ h = one_sum (right_empty sum.0) (subst (λ (k : Heaplet). Joins sum.0 k h) none sum.2) in
    subst (λ (g : Heaplet). FieldSum structs share nothing_laid fields v b o g) same
    (subst (λ fs. FieldSum structs share nothing_laid fs v b o sum.0) listed sum.3)

-- the share of the fields is one
record IsShare (share : ℤ) : Type 0 where
  less : ℕ
  is : share ≡ pos (suc less)
  small : less < 16

share_is : (structs : Structs) (share : ℤ) (fields : List Field) (laid : Layout) (v : Datum) (b o : ℕ) (h : Heaplet) → 0 < length fields → FieldSum structs share laid fields v b o h → IsShare share
share_is structs share [] laid v b o h some sum = absurd (omega (arith, some))
share_is structs share (f ∷ fs) laid v b o h some sum =
    let l = in_some (layout structs f.ty) (λ l. IsSomeAnd (first_of fs v) (λ p. Sum (Cells structs share (sized f.ty) p.0 b (o + offset_after laid l)) (FieldSum structs share (after laid l) fs p.1 b o) h)) sum in
    let p = in_some (first_of fs v) (λ p. Sum (Cells structs share (sized f.ty) p.0 b (o + offset_after laid l.0)) (FieldSum structs share (after laid l.0) fs p.1 b o) h) l.2 in
    let q = opened structs share (sized f.ty) p.0.0 b (o + offset_after laid l.0) p.2.0 p.2.3 in
    record { less = q.less; is = q.is; small = q.small }

laid_by : (o : Option Layout) → IsSome o → (l : Layout) × (o ≡ Some l)
laid_by None s = absurd cc
laid_by (Some l) s = (l, refl)

-- a struct that is laid out has a form
has_struct : (structs : Structs) (tag : List ℕ) (fields : List Field) → IsLaidOut structs tag fields → (f : Form) × (form_of structs (struct_of tag) ≡ Some f)
has_struct structs tag fields d =
    let l = laid_by (fields_layout (layout structs) fields) d.sized in
    has_form structs (StructShape tag) [] (pos l.0.size) (ap (option_map (λ (x : Layout). pos x.size)) (d.same ∙ l.1)) refl

pub filled_is_joined : (structs : Structs) (share : ℤ) (tag : List ℕ) (fields : List Field) (v : Datum) (b o : ℕ) (h : Heaplet) → fields_of structs tag ≡ Some fields → IsLaidOut structs tag fields →
    has_padding structs tag fields ≡ false → FieldSum structs share nothing_laid fields v b o h → Cells structs share (struct_of tag) v b o h
filled_is_joined structs share tag fields v b o h is d full sum =
    let s = share_is structs share fields nothing_laid v b o h d.some sum in
    let f = has_struct structs tag fields d in
    let w = whole structs tag fields f.0 is full f.1 in
    let none : FormPadding (Struct w.forms) s.less b o empty = exact_empty s.less b (is_padding o w.forms) (w.none o) in
    let padding : Padding structs (pos (suc s.less)) (struct_of tag) b o empty =
    (s.small, to_some (form_of structs (struct_of tag)) (λ f. FormPadding f s.less b o empty) f.0 f.1 (subst (λ (g : Form). FormPadding g s.less b o empty) w.same none)) in
    structs_joined structs share tag fields v b o h is
    (h, empty, right_empty h, sum, subst (λ (z : ℤ). Padding structs z (struct_of tag) b o empty) (sym s.is) padding)
