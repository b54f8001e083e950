-- What stands at a field of a part that is a struct, and its padding.
use Rattle.std.proofs.Common.{◌≡◌, ℕ, ◌+◌, ◌<◌, ◌^◌, Bool, true, false, ℤ, pos, suc, List, [], ◌∷◌, ◌++◌, Option, Some, None, find, sym, ap, subst, ◌∙◌, bytes_eq, arith}
use Rattle.std.specs.Prelude.{if◌then◌else◌, int_lt, is_some, option_and_then, option_map, ◌+ℤ◌}
use Rattle.std.specs.Option.{option_map_or}
use Rattle.std.proofs.lemmas.Bool.{and_from, and_parts}
use Rattle.std.proofs.lemmas.Option.{same_Some}
use Rattle.floyd_int.specs.declared.kinds.Value.{Value}
use Rattle.floyd_ctypes.specs.declared.field.Field.{Field}
use Rattle.floyd_ctypes.specs.Layout.{layout, nothing_laid}
use Rattle.floyd_ctypes.specs.Structs.{Structs, completes, field_of}
use Rattle.floyd_clight_heap.specs.Heaplet.{Heaplet}
use Rattle.floyd_tree_sorts.specs.declared.shape.Shape.{Struct as StructShape}
use Rattle.floyd_tree_values.specs.Data.{Datum}
use Rattle.floyd_assert_cells.specs.Cells.{Cells, FieldPart, FormCells, FormPadding, HasExactly, Located, Padding, is_padding}
use Rattle.floyd_assert_cells.specs.Forms.{Form, Struct, Fields, form_of, form_size, shape_form, struct_form}
use Rattle.floyd_assert_cells.specs.Items.{Found, field_in, form_at, further, step_in}
use Rattle.floyd_assert_cells.specs.Types.{Sized, Step, Dot, after_dot, compatible, has_room, in_range, is_aligned_for, is_legal, none_negative, size, sized, type_after, type_at}
use Rattle.floyd_assert_cells.proofs.FieldParts.{and_some}
use Rattle.floyd_assert_cells.proofs.FormLaws.{chained, has_form, layout_is, mapped, shape_form_of, size_is, whole_struct}
use Rattle.floyd_assert_cells.proofs.ObjectLaws.{closed, four_parts, tested}
use Rattle.floyd_assert_cells.proofs.PathForms.{find_field, path_found}
use Rattle.floyd_compatible_laws.proofs.Agreeing.{all_four}

-- ---- one step more

there : (test : Bool) (t u : Sized) → (if test then Some t else None) ≡ Some u → t ≡ u
there true t u e = same_Some {A = Sized} t u e
there false t u e = absurd cc

legal_on : (structs : Structs) (path : List Step) (t u : Sized) (i : Step) → is_legal structs t path ≡ true → type_at structs t path ≡ Some u → is_legal structs u (i ∷ []) ≡ true → is_legal structs t (path ++ i ∷ []) ≡ true
legal_on structs [] t u i l e m = subst (λ (z : Sized). is_legal structs z (i ∷ []) ≡ true) (sym (there (is_some (size structs t)) t u e)) m
legal_on structs (step ∷ path) t u i l e m =
    let p = and_parts (in_range t step) (option_map_or (λ v. is_legal structs v path) (type_after structs t step) false) l in
    let a = chained (λ v. type_at structs v path) (type_after structs t step) u e in
    let here : is_legal structs a.0 path ≡ true = sym (ap (λ o. option_map_or (λ v. is_legal structs v path) o false) a.1) ∙ p.1 in
    and_from (in_range t step) (option_map_or (λ v. is_legal structs v (path ++ i ∷ [])) (type_after structs t step) false) p.0
    (ap (λ o. option_map_or (λ v. is_legal structs v (path ++ i ∷ [])) o false) a.1 ∙ legal_on structs path a.0 u i here a.2 m)

some_found : (k : Form) (m n : ℕ) → m ≡ n → ◌≡◌ {A = Option Found} (Some (record { form = k; offset = m })) (Some (record { form = k; offset = n }))
some_found k m n e = ap (λ o. Some (record { form = k; offset = o })) e

pub form_on : (path : List Step) (f : Form) (g k : Found) (i : Step) → form_at f path ≡ Some g → step_in g.form i ≡ Some k → form_at f (path ++ i ∷ []) ≡ Some (record { form = k.form; offset = g.offset + k.offset })
form_on [] f g k i e s =
    let same : record { form = f; offset = 0 } ≡ g = same_Some {A = Found} (record { form = f; offset = 0 }) g e in
    let here : step_in f i ≡ Some k = ap (λ (x : Found). step_in x.form i) same ∙ s in
    let nought : 0 ≡ g.offset = ap (λ (x : Found). x.offset) same in
    ap (option_and_then (λ x. option_map (further x.offset) (form_at x.form []))) here ∙ some_found k.form (k.offset + 0) (g.offset + k.offset) (omega (arith, nought))
form_on (step ∷ path) f g k i e s =
    let a = chained (λ x. option_map (further x.offset) (form_at x.form path)) (step_in f step) g e in
    let b = mapped (further a.0.offset) (form_at a.0.form path) g a.2 in
    let here : step_in b.0.form i ≡ Some k = ap (λ (x : Found). step_in x.form i) b.2 ∙ s in
    let far : a.0.offset + b.0.offset ≡ g.offset = ap (λ (x : Found). x.offset) b.2 in
    ap (option_and_then (λ x. option_map (further x.offset) (form_at x.form (path ++ i ∷ [])))) a.1
    ∙ ap (option_map (further a.0.offset)) (form_on path a.0.form b.0 k i b.1 here)
    ∙ some_found k.form (a.0.offset + (b.0.offset + k.offset)) (g.offset + k.offset) (omega (arith, far))

-- ---- a field

pub field_legal : (structs : Structs) (u : Sized) (tag x : List ℕ) (f : Field) (q : Form) → u.shape ≡ StructShape tag → form_of structs u ≡ Some q → field_of structs tag x ≡ Some f → is_legal structs u (Dot x ∷ []) ≡ true
field_legal structs u tag x f q shape form field =
    let tagged : struct_form (completes structs) structs tag ≡ Some q = sym (ap (λ s. shape_form (struct_form (completes structs) structs) s u.sizes) shape) ∙ form in
    let s = whole_struct structs tag q tagged in
    let named : find (λ g. bytes_eq x g.name) s.fields ≡ Some f = sym (ap (option_and_then (find (λ g. bytes_eq x g.name))) s.is) ∙ field in
    let r = find_field (struct_form (completes structs) structs) (layout structs) (layout_is structs) nothing_laid s.fields x f s.forms s.laid named in
    let t : Sized = sized f.ty in
    let has : size structs t ≡ Some (pos (form_size r.found.form)) = size_is structs t.shape t.sizes r.found.form (shape_form_of (struct_form (completes structs) structs) f.ty ∙ r.form) in
    ap (λ s. option_map_or (λ w. is_legal structs w []) (after_dot structs s x) false) shape
    ∙ ap (λ o. option_map_or (λ w. is_legal structs w []) (option_map (λ (g : Field). sized g.ty) o) false) field
    ∙ ap is_some has

same_shift : (m n : ℕ) → ◌≡◌ {A = Option ℤ} (Some (pos m)) (Some (pos n)) → m ≡ n
same_shift m n e = cc

module _ (structs : Structs) (share : ℤ) (t : Sized) (path : List Step) (root : Value) (l : Located structs t path root) (tag : List ℕ) (shape : l.type.shape ≡ StructShape tag) (less : ℕ) (is : share ≡ pos (suc less)) (small : less < 16) (forms : Fields) (of : form_of structs l.type ≡ Some (Struct forms)) where
  pub field_there : (x : List ℕ) (f : Field) (k : Form) (at : ℕ) (e : Datum) (g : Heaplet) → field_of structs tag x ≡ Some f → field_in forms x ≡ Some (record { form = k; offset = at }) → FormCells less l.block k e (l.offset + l.shift + at) g → FieldPart structs share t (path ++ Dot x ∷ []) e root g
  field_there x f k at e g field named cells =
      let fits = ap (compatible structs t path) (sym l.points) ∙ l.fits in
      let parts = four_parts (is_aligned_for structs t l.offset) (has_room structs t l.offset) (none_negative t.sizes) (is_legal structs t path) fits in
      let room = tested (size structs t) (λ n. int_lt (pos l.offset +ℤ n) (pos (2 ^ 64))) parts.1 in
      let whole = has_form structs t.shape t.sizes room.0 room.1 parts.2 in
      let p = path_found structs path t whole.0 whole.1 parts.3 in
      let type : p.type ≡ l.type = same_Some {A = Sized} p.type l.type (sym p.nested ∙ l.nested) in
      let form : p.found.form ≡ Struct forms = same_Some {A = Form} p.found.form (Struct forms) (sym (subst (λ (z : Sized). form_of structs z ≡ Some p.found.form) type p.form) ∙ of) in
      let shift : p.found.offset ≡ l.shift = same_shift p.found.offset l.shift (sym p.place ∙ l.shifted) in
      let legal = legal_on structs path t l.type (Dot x) parts.3 l.nested (field_legal structs l.type tag x f (Struct forms) shape of field) in
      let step : step_in p.found.form (Dot x) ≡ Some (record { form = k; offset = at }) = ap (λ z. step_in z (Dot x)) form ∙ named in
      let on = form_on path whole.0 p.found (record { form = k; offset = at }) (Dot x) p.is step in
      let q = path_found structs (path ++ Dot x ∷ []) t whole.0 whole.1 legal in
      let found : q.found ≡ record { form = k; offset = p.found.offset + at } = same_Some {A = Found} q.found (record { form = k; offset = p.found.offset + at }) (sym q.is ∙ on) in
      let place : l.offset + l.shift + at ≡ l.offset + (p.found.offset + at) = omega (arith, shift) in
      let moved : FormCells less l.block q.found.form e (l.offset + q.found.offset) g = subst (λ (z : Found). FormCells less l.block z.form e (l.offset + z.offset) g) (sym found) (subst (λ n. FormCells less l.block k e n g) place cells) in
      let located : Located structs t (path ++ Dot x ∷ []) root = record {
        block = l.block;
        offset = l.offset;
        points = l.points;
        fits = ap (compatible structs t (path ++ Dot x ∷ [])) l.points ∙ all_four (is_aligned_for structs t l.offset) (has_room structs t l.offset) (none_negative t.sizes) (is_legal structs t (path ++ Dot x ∷ [])) parts.0 parts.1 parts.2 legal;
        type = q.type;
        nested = q.nested;
        shift = q.found.offset;
        shifted = q.place;
      } in
      (located, subst (λ z. Cells structs z q.type e l.block (l.offset + q.found.offset) g) (sym is) (closed structs less q.type e l.block (l.offset + q.found.offset) g q.found.form small q.form moved))

  -- the bytes that are in no field
  pub padding_there : (k : Heaplet) → HasExactly less l.block (is_padding (l.offset + l.shift) forms) k → Padding structs share l.type l.block (l.offset + l.shift) k
  padding_there k exact =
      subst (λ z. Padding structs z l.type l.block (l.offset + l.shift) k) (sym is)
      (small, and_some (form_of structs l.type) (λ f. FormPadding f less l.block (l.offset + l.shift) k) (Struct forms) of exact)
