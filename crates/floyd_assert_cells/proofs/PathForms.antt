-- The form at a legal path is that of the type there, and stands at its offset, at a multiple of its alignment.
use Rattle.std.proofs.Common.{◌≡◌, ℕ, suc, ◌+◌, ◌*◌, ◌<◌, ◌≤◌, ℤ, pos, negsuc, ◌+ℤ◌, ◌*ℤ◌, int_le, int_lt, nat_lt, Bool, true, false, List, [], ◌∷◌, Option, None, Some, find, is_some, option_map, option_and_then, bytes_eq, refl, sym, ◌∙◌, ap, subst, arith, cond, ltb-true, lt-ltb}
use Rattle.std.specs.Option.{option_map_or}
use Rattle.std.specs.Int.{◌∣◌}
use Rattle.std.proofs.Math.Nat.{dvd-add, dvd-mul_right_of_dvd}
use Rattle.std.proofs.lemmas.Nat.Gcd.{dvd_trans}
use Rattle.std.proofs.lemmas.Bool.{and_parts, cond-true}
use Rattle.std.proofs.lemmas.Nat.{mul-le}
use Rattle.std.proofs.lemmas.Option.{same_Some, cond_some}
use Rattle.floyd_ctypes.specs.declared.ctype.CType.{CType}
use Rattle.floyd_ctypes.specs.declared.field.Field.{Field}
use Rattle.floyd_ctypes.specs.declared.layout.Layout.{Layout}
use Rattle.floyd_ctypes.specs.Layout.{layout, nothing_laid, offset_after, offset_from, after}
use Rattle.floyd_ctypes.specs.Structs.{Structs, field_of, completes}
use Rattle.floyd_tree_sorts.specs.declared.shape.Shape.{Shape, Void, Int, Pointer', Array', Struct as StructShape, Function', more_of-Shape, end_of-Shape}
use Rattle.floyd_assert_cells.specs.Types.{Sized, Step, Dot, At, sized, size, size_by, type_after, after_dot, item_type, step_offset, type_at, offset_at, is_below, in_range, is_legal}
use Rattle.floyd_assert_cells.specs.Forms.{Form, Single, Array, Struct, Fields, EndAt, FieldAt, align_of, end_of, form_layout, form_size, type_form, fields_form, shape_form, struct_form, form_of}
use Rattle.floyd_assert_cells.specs.Items.{Found, field_in, step_in, further, form_at}
use Rattle.floyd_assert_cells.proofs.FormLaws.{mapped, chained, layout_is, shape_form_of, size_is, whole_struct}
use Rattle.floyd_assert_cells.proofs.FormOrders.{IsForm, IsFields, first_divides, rest_divides, size_divides}

-- ---- fields

-- the field of a name, in the list and in the form
pub record FieldFound (of : List ℕ → Option Form) (L : CType → Option Layout) (laid : Layout) (fs : List Field) (x : List ℕ) (t : CType) (g : Fields) : Type 0 where
  pub found : Found
  pub is : field_in g x ≡ Some found
  pub form : type_form of t ≡ Some found.form
  pub place : offset_from L laid fs x ≡ Some found.offset

module _ (of : List ℕ → Option Form) (L : CType → Option Layout) (same : (t : CType) → L t ≡ option_map form_layout (type_form of t)) where
  find_by : (laid : Layout) (f : Field) (fs : List Field) (x : List ℕ) (d : Field) (h : Form) (more : Fields) → type_form of f.ty ≡ Some h →
      (find (λ f. bytes_eq x f.name) fs ≡ Some d → FieldFound of L (after laid (form_layout h)) fs x d.ty more) →
      (t : Bool) → bytes_eq x f.name ≡ t → cond t (Some f) (find (λ f. bytes_eq x f.name) fs) ≡ Some d →
      FieldFound of L laid (f ∷ fs) x d.ty (FieldAt f.name (offset_after laid (form_layout h)) h more)
  find_by laid f fs x d h more e next true b p =
      let l = form_layout h in
      let here : L f.ty ≡ Some l = same f.ty ∙ ap (option_map form_layout) e in
      record {
        found = record { form = h; offset = offset_after laid l };
        is = ap (λ t. cond t (Some (record { form = h; offset = offset_after laid l })) (field_in more x)) b;
        form = subst (λ z. type_form of z ≡ Some h) (ap (λ z. z.ty) (same_Some f d p)) e;
        place = ap (option_and_then (λ l. cond (bytes_eq x f.name) (Some (offset_after laid l)) (offset_from L (after laid l) fs x))) here
            ∙ ap (λ t. cond t (Some (offset_after laid l)) (offset_from L (after laid l) fs x)) b;
      }
  find_by laid f fs x d h more e next false b p =
      let l = form_layout h in
      let here : L f.ty ≡ Some l = same f.ty ∙ ap (option_map form_layout) e in
      let r = next p in
      record {
        found = r.found;
        is = ap (λ t. cond t (Some (record { form = h; offset = offset_after laid l })) (field_in more x)) b ∙ r.is;
        form = r.form;
        place = ap (option_and_then (λ l. cond (bytes_eq x f.name) (Some (offset_after laid l)) (offset_from L (after laid l) fs x))) here
            ∙ ap (λ t. cond t (Some (offset_after laid l)) (offset_from L (after laid l) fs x)) b ∙ r.place;
      }

  pub find_field : (laid : Layout) (fs : List Field) (x : List ℕ) (d : Field) (g : Fields) → fields_form of laid fs ≡ Some g → find (λ f. bytes_eq x f.name) fs ≡ Some d → FieldFound of L laid fs x d.ty g
  find_field laid [] x d g e p = cc
  find_field laid (f ∷ fs) x d g e p =
      let first = chained (λ h. option_map (FieldAt f.name (offset_after laid (form_layout h)) h) (fields_form of (after laid (form_layout h)) fs)) (type_form of f.ty) g e in
      let h = first.0 in
      let more = mapped (FieldAt f.name (offset_after laid (form_layout h)) h) (fields_form of (after laid (form_layout h)) fs) g first.2 in
      subst (FieldFound of L laid (f ∷ fs) x d.ty) more.2
      (find_by laid f fs x d h more.0 first.1 (λ q. find_field (after laid (form_layout h)) fs x d more.0 more.1 q) (bytes_eq x f.name) refl p)

-- ---- a step

pub record StepFound (structs : Structs) (t : Sized) (step : Step) (f : Form) (u : Sized) : Type 0 where
  pub found : Found
  pub is : step_in f step ≡ Some found
  pub form : form_of structs u ≡ Some found.form
  pub place : step_offset structs t step ≡ Some (pos found.offset)

dot_found : (structs : Structs) (shape : Shape) (sizes : List ℤ) (x : List ℕ) (f : Form) (u : Sized) → shape_form (struct_form (completes structs) structs) shape sizes ≡ Some f → after_dot structs shape x ≡ Some u → StepFound structs (record { shape = shape; sizes = sizes }) (Dot x) f u
dot_found structs Void sizes x f u e p = cc
dot_found structs (Int k) sizes x f u e p = cc
dot_found structs (Pointer' q to) sizes x f u e p = cc
dot_found structs (Array' q t) sizes x f u e p = cc
dot_found structs (Function' shape ps q r) sizes x f u e p = cc
dot_found structs (StructShape tag) sizes x f u e p =
    let s = whole_struct structs tag f e in
    let d = mapped (λ f. sized f.ty) (field_of structs tag x) u p in
    let named : find (λ f. bytes_eq x f.name) s.fields ≡ Some d.0 = sym (ap (option_and_then (find (λ f. bytes_eq x f.name))) s.is) ∙ d.1 in
    let r = find_field (struct_form (completes structs) structs) (layout structs) (layout_is structs) nothing_laid s.fields x d.0 s.forms s.laid named in
    record {
      found = r.found;
      is = ap (λ z. step_in z (Dot x)) (sym s.same) ∙ r.is;
      form = ap (form_of structs) (sym d.2) ∙ shape_form_of (struct_form (completes structs) structs) d.0.ty ∙ r.form;
      place = ap (option_map pos) (ap (option_and_then (λ fields. offset_from (layout structs) nothing_laid fields x)) s.is ∙ r.place);
    }

at_found : (structs : Structs) (shape : Shape) (sizes : List ℤ) (i : ℤ) (f : Form) (u : Sized) → shape_form (struct_form (completes structs) structs) shape sizes ≡ Some f → item_type shape sizes ≡ Some u → is_below sizes i ≡ true → StepFound structs (record { shape = shape; sizes = sizes }) (At i) f u
at_found structs Void sizes i f u e p q = cc
at_found structs (Int k) sizes i f u e p q = cc
at_found structs (Pointer' r to) sizes i f u e p q = cc
at_found structs (StructShape tag) sizes i f u e p q = cc
at_found structs (Function' shape ps r t) sizes i f u e p q = cc
at_found structs (Array' r (more_of-Shape t end_of-Shape)) [] i f u e p q = cc
at_found structs (Array' r (more_of-Shape t end_of-Shape)) (negsuc n ∷ sizes) i f u e p q = cc
at_found structs (Array' r (more_of-Shape t end_of-Shape)) (pos n ∷ sizes) (negsuc i) f u e p q = cc
at_found structs (Array' r (more_of-Shape t end_of-Shape)) (pos n ∷ sizes) (pos i) f u e p q =
    let g = mapped (λ g. Array g n) (shape_form (struct_form (completes structs) structs) t sizes) f e in
    let below : i < n = below_is i n (and_parts (int_le (pos 0) (pos i)) (int_lt (pos i) (pos n)) q).1 in
    let at : Found = record { form = g.0; offset = form_size g.0 * i } in
    record {
      found = at;
      is = ap (λ z. step_in z (At (pos i))) (sym g.2) ∙ cond-true (nat_lt i n) (Some at) None (lt-ltb i n below);
      form = ap (form_of structs) (sym (same_Some _ u p)) ∙ g.1;
      place = ap (option_map (λ bytes. bytes *ℤ pos i)) (size_is structs t sizes g.0 g.1);
    }
  where
    below_is : (i n : ℕ) → int_lt (pos i) (pos n) ≡ true → i < n
    below_is i n e = ltb-true i n e

step_found : (structs : Structs) (t : Sized) (step : Step) (f : Form) (u : Sized) → form_of structs t ≡ Some f → type_after structs t step ≡ Some u → in_range t step ≡ true → StepFound structs t step f u
step_found structs t (Dot x) f u e p q = dot_found structs t.shape t.sizes x f u e p
step_found structs t (At i) f u e p q = at_found structs t.shape t.sizes i f u e p q

-- ---- a path

pub record PathFound (structs : Structs) (t : Sized) (path : List Step) (f : Form) : Type 0 where
  pub found : Found
  pub is : form_at f path ≡ Some found
  pub type : Sized
  pub nested : type_at structs t path ≡ Some type
  pub form : form_of structs type ≡ Some found.form
  pub place : offset_at structs t path ≡ Some (pos found.offset)

legal_step : (o : Option Sized) (F : Sized → Bool) → option_map_or F o false ≡ true → (u : Sized) × (o ≡ Some u) × (F u ≡ true)
legal_step None F e = cc
legal_step (Some u) F e = (u, refl, e)

some_size : {A : Type 0} (o : Option ℤ) (n : ℤ) (x : A) → o ≡ Some n → cond (is_some o) (Some x) None ≡ Some x
some_size o n x e = ap (λ z. cond (is_some z) (Some x) None) e

-- a legal path leads to a form in the type's form
pub path_found : (structs : Structs) (path : List Step) (t : Sized) (f : Form) → form_of structs t ≡ Some f → is_legal structs t path ≡ true → PathFound structs t path f
path_found structs [] t f e l =
    let size = size_is structs t.shape t.sizes f e in
    record {
      found = record { form = f; offset = 0 };
      is = refl;
      type = t;
      nested = some_size (size_by structs t.shape t.sizes) (pos (form_size f)) t size;
      form = e;
      place = some_size (size_by structs t.shape t.sizes) (pos (form_size f)) (pos 0) size;
    }
path_found structs (step ∷ path) t f e l =
    let p = and_parts (in_range t step) (option_map_or (λ u. is_legal structs u path) (type_after structs t step) false) l in
    let u = legal_step (type_after structs t step) (λ u. is_legal structs u path) p.1 in
    let s = step_found structs t step f u.0 e u.1 p.0 in
    let r = path_found structs path u.0 s.found.form s.form u.2 in
    record {
      found = further s.found.offset r.found;
      is = ap (option_and_then (λ g. option_map (further g.offset) (form_at g.form path))) s.is ∙ ap (option_map (further s.found.offset)) r.is;
      type = r.type;
      nested = ap (option_and_then (λ u. type_at structs u path)) u.1 ∙ r.nested;
      form = r.form;
      place = ap (option_and_then (λ o. option_and_then (λ u. option_map (λ rest. o +ℤ rest) (offset_at structs u path)) (type_after structs t step))) s.place
          ∙ ap (option_and_then (λ u. option_map (λ rest. pos s.found.offset +ℤ rest) (offset_at structs u path))) u.1
          ∙ ap (option_map (λ rest. pos s.found.offset +ℤ rest)) r.place;
    }

-- ---- places

-- what stands at a path is in order, at a multiple of its alignment, and within the whole
pub record IsPlaced (f : Form) (o : ℕ) (g : Found) : Type 0 where
  pub form : IsForm g.form
  pub aligned : (form_layout g.form).align ∣ o + g.offset
  pub within : g.offset + form_size g.form ≤ form_size f

fields_end : (from : ℕ) (fields : Fields) → IsFields from fields → from ≤ end_of fields
fields_end from (EndAt size) w = w
fields_end from (FieldAt name at f rest) w =
    let l = fields_end (at + form_size f) rest w.3 in
    omega (arith, w.0, l)

-- the same of a field of a struct whose offset is a multiple of a
abbrev FieldPlaced : Fields → ℕ → Found → Type 0
FieldPlaced fields o g = IsForm g.form × ((form_layout g.form).align ∣ o + g.offset) × (g.offset + form_size g.form ≤ end_of fields)

field_placed_by : (name : List ℕ) (at : ℕ) (f : Form) (rest : Fields) (x : List ℕ) (g : Found) (from o : ℕ) → IsFields from (FieldAt name at f rest) → (form_layout f).align ∣ o →
    (field_in rest x ≡ Some g → FieldPlaced rest o g) → (t : Bool) → cond t (Some (record { form = f; offset = at })) (field_in rest x) ≡ Some g → FieldPlaced rest o g
field_placed_by name at f rest x g from o w d more true p =
    subst (FieldPlaced rest o) (same_Some (record { form = f; offset = at }) g p)
    (w.2, dvd-add (form_layout f).align d w.1, fields_end (at + form_size f) rest w.3)
field_placed_by name at f rest x g from o w d more false p = more p

field_placed : (fields : Fields) (x : List ℕ) (g : Found) (from o : ℕ) → IsFields from fields → field_in fields x ≡ Some g → align_of fields ∣ o → FieldPlaced fields o g
field_placed (EndAt size) x g from o w e d = cc
field_placed (FieldAt name at f rest) x g from o w e d =
    field_placed_by name at f rest x g from o w (dvd_trans (form_layout f).align (first_divides name at f rest) d)
    (λ p. field_placed rest x g (at + form_size f) o w.3 p (dvd_trans (align_of rest) (rest_divides name at f rest) d)) (bytes_eq x name) e

item_fits : (s i n : ℕ) → i < n → s * i + s ≤ s * n
item_fits s i n l =
    let m : s * suc i ≤ s * n = mul-le s (suc i) s n (omega arith) l in
    let e : s * suc i ≡ s + s * i = omega arith in
    omega (arith, m, e)

step_placed : (f : Form) (step : Step) (g : Found) (o : ℕ) → IsForm f → (form_layout f).align ∣ o → step_in f step ≡ Some g → IsPlaced f o g
step_placed (Single s) step g o w d e = cc
step_placed (Array f n) (Dot x) g o w d e = cc
step_placed (Array f n) (At (negsuc i)) g o w d e = cc
step_placed (Array f n) (At (pos i)) g o w d e =
    let p = cond_some (nat_lt i n) (record { form = f; offset = form_size f * i }) g e in
    subst (IsPlaced (Array f n) o) p.1
    (record {
      form = w;
      aligned = dvd-add (form_layout f).align d (dvd-mul_right_of_dvd (form_layout f).align (size_divides f w) i);
      within = item_fits (form_size f) i n (ltb-true i n p.0);
    })
step_placed (Struct fields) (At i) g o w d e = cc
step_placed (Struct fields) (Dot x) g o w d e =
    let p = field_placed fields x g 0 o w.0 e d in
    record { form = p.0; aligned = p.1; within = p.2 }

pub path_placed : (path : List Step) (f : Form) (g : Found) (o : ℕ) → IsForm f → (form_layout f).align ∣ o → form_at f path ≡ Some g → IsPlaced f o g
path_placed [] f g o w d e =
    subst (IsPlaced f o) (same_Some (record { form = f; offset = 0 }) g e)
    (record { form = w; aligned = subst (λ n. (form_layout f).align ∣ n) (omega arith) d; within = omega arith })
path_placed (step ∷ path) f g o w d e =
    let first = chained (λ g. option_map (further g.offset) (form_at g.form path)) (step_in f step) g e in
    let s = first.0 in
    let rest = mapped (further s.offset) (form_at s.form path) g first.2 in
    let one = step_placed f step s o w d first.1 in
    let more = path_placed path s.form rest.0 (o + s.offset) one.form one.aligned rest.1 in
    subst (IsPlaced f o) rest.2
    (record {
      form = more.form;
      aligned = subst (λ n. (form_layout rest.0.form).align ∣ n) (omega arith) more.aligned;
      within = (let a = one.within in let b = more.within in omega (arith, a, b));
    })
