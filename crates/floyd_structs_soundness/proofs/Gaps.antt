-- Structs without padding: their fields have all their bytes.
use Rattle.std.proofs.Common.{◌≡◌, ⊎_elim, ℕ, ◌+◌, ◌≤◌, ◌<◌, ◌==◌, ◌&&◌, not, Bool, true, false, List, [], ◌∷◌, Option, Some, None, refl, sym, ap, ap₂, ◌∙◌, arith}
use Rattle.std.specs.Prelude.{nat_eq, option_map, unwrap_or}
use Rattle.std.proofs.lemmas.Bool.{cases_lt, eqb-true, false_from_ne_true, and_parts, or_left, or_right}
use Rattle.floyd_ctypes.specs.declared.ctype.CType as c
use Rattle.floyd_ctypes.specs.declared.field.Field.{Field}
use Rattle.floyd_ctypes.specs.declared.layout.Layout.{Layout}
use Rattle.floyd_ctypes.specs.Layout.{after, nothing_laid, offset_after, padded, size}
use Rattle.floyd_ctypes.specs.Structs.{Structs, completes}
use Rattle.floyd_clight_heap.specs.Heaplet.{Cell, Heaplet, empty}
use Rattle.floyd_assert_cells.specs.Cells.{HasExactly, IsCell, in_fields, is_padding, within}
use Rattle.floyd_assert_cells.specs.Forms.{Form, Struct, Fields, EndAt, FieldAt, end_of, form_layout, form_size, fields_form, struct_form, type_form}
use Rattle.floyd_assert_cells.proofs.Exact.{within_from, within_parts}
use Rattle.floyd_assert_cells.proofs.FormLaws.{chained, layout_is, mapped}
use Rattle.floyd_assert_cells.proofs.FormOrders.{IsFields}
use Rattle.floyd_arrays_structs.specs.StructParts.{field_bytes, has_padding}

-- the bytes of all fields
abbrev sizes : Fields → ℕ
sizes (EndAt size) = 0
sizes (FieldAt name at f rest) = form_size f + sizes rest

room : (from : ℕ) (g : Fields) → IsFields from g → from + sizes g ≤ end_of g
room from (EndAt size) w =
    let l = w in
    omega (arith, l)
room from (FieldAt name at f rest) w =
    let l = room (at + form_size f) rest w.3 in
    let m = w.0 in
    omega (arith, l, m)

-- where they are as many as the struct's, each byte of it is in a field
covered : (o from : ℕ) (g : Fields) (y : ℕ) → IsFields from g → from + sizes g ≡ end_of g → o + from ≤ y → y < o + end_of g → in_fields o g y ≡ true
covered o from (EndAt size) y w e low high = absurd (omega (arith, e, low, high))
covered o from (FieldAt name at f rest) y w e low high =
    let l = room (at + form_size f) rest w.3 in
    let m = w.0 in
    let same : from ≡ at = omega (arith, l, m, e) in
    let more : at + form_size f + sizes rest ≡ end_of rest = omega (arith, same, e) in
    ⊎_elim
    (λ (b : y < o + at + form_size f). or_left (within (o + at) (form_size f) y) (in_fields o rest y) (within_from (o + at) (form_size f) y (omega (arith, low, same)) b))
    (λ (b : o + at + form_size f ≤ y). or_right (within (o + at) (form_size f) y) (in_fields o rest y) (covered o (at + form_size f) rest y w.3 more (omega (arith, b)) high))
    (cases_lt y (o + at + form_size f))

no_gap : (o : ℕ) (g : Fields) → IsFields 0 g → sizes g ≡ end_of g → (y : ℕ) → is_padding o g y ≡ false
no_gap o g w e y = false_from_ne_true (is_padding o g y) (λ t.
    let p = and_parts (within o (end_of g) y) (not (in_fields o g y)) t in
    let q = within_parts o (end_of g) y p.0 in
    let full : 0 + sizes g ≡ end_of g = omega (arith, e) in
    let inside = covered o 0 g y w full (omega (arith, q.0)) q.1 in
    both (in_fields o g y) inside p.1)
  where
    both : (t : Bool) → t ≡ true → not t ≡ true → ⊥
    both true e f = absurd cc
    both false e f = absurd cc

nothing_at : (less : ℕ) (k : Option Cell) (t p : Bool) → p ≡ false → IsCell less (t && p) k → k ≡ None
nothing_at less k true true e c = absurd cc
nothing_at less k false true e c = absurd cc
nothing_at less k true false e c = c
nothing_at less k false false e c = c

none_there : (less b : ℕ) (p : ℕ → Bool) (h : Heaplet) → ((y : ℕ) → p y ≡ false) → HasExactly less b p h → h ≡ empty
none_there less b p h none w = λ i x y. nothing_at less (h x y) (x == b) (p y) (none y) (w.at x y) i

module _ (structs : Structs) where
  abbrev Laid : List ℕ → Option Form
  Laid = struct_form (completes structs) structs

  size_of : (t : c.CType) (f : Form) → type_form (struct_form (completes structs) structs) t ≡ Some f → size structs t ≡ Some (form_size f)
  size_of t f e = ap (option_map (λ l. l.size)) (layout_is structs t ∙ ap (option_map form_layout) e)

  bytes_are : (laid : Layout) (fs : List Field) (g : Fields) → fields_form (struct_form (completes structs) structs) laid fs ≡ Some g → field_bytes structs fs ≡ sizes g
  bytes_are laid [] g e =
      let same : EndAt (padded laid).size ≡ g = cc in
      ap sizes same
  bytes_are laid (f ∷ fs) g e =
      let first = chained (λ h. option_map (FieldAt f.name (offset_after laid (form_layout h)) h) (fields_form (struct_form (completes structs) structs) (after laid (form_layout h)) fs)) (type_form (struct_form (completes structs) structs) f.ty) g e in
      let k = first.0 in
      let l = form_layout k in
      let more = mapped (FieldAt f.name (offset_after laid l) k) (fields_form (struct_form (completes structs) structs) (after laid l) fs) g first.2 in
      ap₂ (λ m n. m + n) (ap (λ o. unwrap_or o 0) (size_of f.ty k first.1)) (bytes_are (after laid l) fs more.0 more.1) ∙ ap sizes more.2

  -- no byte is in no field
  pub nothing_between : (tag : List ℕ) (fs : List Field) (g : Fields) (o : ℕ) → struct_form (completes structs) structs tag ≡ Some (Struct g) → fields_form (struct_form (completes structs) structs) nothing_laid fs ≡ Some g → IsFields 0 g → has_padding structs tag fs ≡ false → (y : ℕ) → is_padding o g y ≡ false
  nothing_between tag fs g o form laid order none y =
      let whole : unwrap_or (size structs (c.Struct tag)) 0 ≡ end_of g = ap (λ k. unwrap_or k 0) (size_of (c.Struct tag) (Struct g) form) in
      let equal : field_bytes structs fs ≡ unwrap_or (size structs (c.Struct tag)) 0 = eqb-true (field_bytes structs fs) (unwrap_or (size structs (c.Struct tag)) 0) (twice (nat_eq (field_bytes structs fs) (unwrap_or (size structs (c.Struct tag)) 0)) none) in
      no_gap o g order (sym (bytes_are nothing_laid fs g laid) ∙ equal ∙ whole) y
    where
      twice : (t : Bool) → not t ≡ false → t ≡ true
      twice true e = refl
      twice false e = absurd cc

  pub no_padding : (tag : List ℕ) (fs : List Field) (g : Fields) (less b o : ℕ) (h : Heaplet) → struct_form (completes structs) structs tag ≡ Some (Struct g) → fields_form (struct_form (completes structs) structs) nothing_laid fs ≡ Some g → IsFields 0 g →
      has_padding structs tag fs ≡ false → HasExactly less b (is_padding o g) h → h ≡ empty
  no_padding tag fs g less b o h form laid order none exact = none_there less b (is_padding o g) h (nothing_between tag fs g o form laid order none) exact
