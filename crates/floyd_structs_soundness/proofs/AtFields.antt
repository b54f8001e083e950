-- Parts at the fields of one struct: the struct's place, and each field's bytes.
use Rattle.std.proofs.Common.{◌≡◌, ℕ, ◌+◌, ◌^◌, Bool, true, false, ℤ, pos, negsuc, suc, List, [], ◌∷◌, ◌++◌, Option, Some, None, find, refl, sym, ap, subst, ◌∙◌, bytes_eq, arith}
use Rattle.std.specs.Prelude.{int_lt, is_some, option_and_then, ◌+ℤ◌}
use Rattle.std.specs.Option.{option_map_or}
use Rattle.std.proofs.lemmas.Bool.{and_from, and_parts}
use Rattle.std.proofs.lemmas.Option.{same_Some}
use Rattle.floyd_int.specs.declared.kinds.Value.{Value}
use Rattle.floyd_ctypes.specs.declared.field.Field.{Field}
use Rattle.floyd_ctypes.specs.Layout.{layout, nothing_laid}
use Rattle.floyd_ctypes.specs.Structs.{Structs, completes, field_of}
use Rattle.floyd_clight_heap.specs.Heaplet.{Heaplet}
use Rattle.floyd_tree_sorts.specs.declared.shape.Shape.{Shape, Void, Int, Pointer', Array', Struct as StructShape, Function', more_of-Shape, end_of-Shape}
use Rattle.floyd_tree.specs.declared.paths.PathStep.{PathStep}
use Rattle.floyd_tree.specs.declared.paths.PathStep.TheVariants.{Field as FieldStep, Subscript}
use Rattle.floyd_tree.specs.Plain.{Plain}
use Rattle.floyd_tree_values.specs.BuiltIns.{Env}
use Rattle.floyd_tree_values.specs.Data.{Datum, Number}
use Rattle.floyd_tree_values.specs.Means.{Defs as Values, Means}
use Rattle.floyd_tree_values.proofs.OneValue.{one_value}
use Rattle.floyd_assert_cells.specs.Cells.{FieldPart, FormCells, Located}
use Rattle.floyd_assert_cells.specs.Forms.{Form, Array, Struct, Fields, form_of, shape_form, struct_form}
use Rattle.floyd_assert_cells.specs.Items.{Found, field_in, step_in}
use Rattle.floyd_assert_cells.specs.Types.{Sized, Step, Dot, At, after_dot, compatible, has_room, in_range, is_aligned_for, is_legal, item_type, none_negative, size, sized, type_after}
use Rattle.floyd_assert_cells.proofs.FormLaws.{has_form, layout_is, mapped, shape_form_of, size_is, whole_struct}
use Rattle.floyd_assert_cells.proofs.ObjectLaws.{four_parts, opened, tested}
use Rattle.floyd_assert_cells.proofs.PathForms.{find_field, path_found}
use Rattle.floyd_assert_trees.specs.declared.sep.Region.{Region}
use Rattle.floyd_assert_meaning.specs.Parts.{ObjectHolds, PathMeans, RegionMeans, sized_as}
use Rattle.floyd_assert_meaning.specs.Settings.{Setting}
use Rattle.floyd_compatible_laws.proofs.Agreeing.{all_four}
use Rattle.floyd_arrays_structs.specs.StructParts.{field_region}
use Rattle.floyd_shares_soundness.proofs.OnePlace.{one_root, one_sizes, one_steps, same_block, same_shift}
use Rattle.floyd_structs_soundness.proofs.InStructs.{form_on}

-- ---- one step less

legal_step : (o : Option Sized) (F : Sized → Bool) → option_map_or F o false ≡ true → (u : Sized) × (o ≡ Some u) × (F u ≡ true)
legal_step None F e = absurd cc
legal_step (Some u) F e = (u, refl, e)

dot_form : (structs : Structs) (shape : Shape) (sizes : List ℤ) (x : List ℕ) (f : Form) (u : Sized) → shape_form (struct_form (completes structs) structs) shape sizes ≡ Some f → after_dot structs shape x ≡ Some u → (g : Form) × (form_of structs u ≡ Some g)
dot_form structs Void sizes x f u e p = absurd cc
dot_form structs (Int k) sizes x f u e p = absurd cc
dot_form structs (Pointer' q to) sizes x f u e p = absurd cc
dot_form structs (Array' q t) sizes x f u e p = absurd cc
dot_form structs (Function' shape ps q r) sizes x f u e p = absurd cc
dot_form structs (StructShape tag) sizes x f u e p =
    let s = whole_struct structs tag f e in
    let d = mapped (λ (g : Field). sized g.ty) (field_of structs tag x) u p in
    let named : find (λ g. bytes_eq x g.name) s.fields ≡ Some d.0 = sym (ap (option_and_then (find (λ g. bytes_eq x g.name))) s.is) ∙ d.1 in
    let r = find_field (struct_form (completes structs) structs) (layout structs) (layout_is structs) nothing_laid s.fields x d.0 s.forms s.laid named in
    (r.found.form, ap (form_of structs) (sym d.2) ∙ shape_form_of (struct_form (completes structs) structs) d.0.ty ∙ r.form)

item_form : (structs : Structs) (shape : Shape) (sizes : List ℤ) (f : Form) (u : Sized) → shape_form (struct_form (completes structs) structs) shape sizes ≡ Some f → item_type shape sizes ≡ Some u → (g : Form) × (form_of structs u ≡ Some g)
item_form structs Void sizes f u e p = absurd cc
item_form structs (Int k) sizes f u e p = absurd cc
item_form structs (Pointer' r to) sizes f u e p = absurd cc
item_form structs (StructShape tag) sizes f u e p = absurd cc
item_form structs (Function' shape ps r t) sizes f u e p = absurd cc
item_form structs (Array' r (more_of-Shape t end_of-Shape)) [] f u e p = absurd cc
item_form structs (Array' r (more_of-Shape t end_of-Shape)) (negsuc n ∷ sizes) f u e p = absurd cc
item_form structs (Array' r (more_of-Shape t end_of-Shape)) (pos n ∷ sizes) f u e p =
    let g = mapped (λ g. Array g n) (shape_form (struct_form (completes structs) structs) t sizes) f e in
    (g.0, ap (form_of structs) (sym (same_Some {A = Sized} (record { shape = t; sizes = sizes }) u p)) ∙ g.1)

step_form : (structs : Structs) (t u : Sized) (step : Step) (f : Form) → form_of structs t ≡ Some f → type_after structs t step ≡ Some u → (g : Form) × (form_of structs u ≡ Some g)
step_form structs t u (Dot x) f e p = dot_form structs t.shape t.sizes x f u e p
step_form structs t u (At i) f e p = item_form structs t.shape t.sizes f u e p

legal_off : (structs : Structs) (path : List Step) (t : Sized) (f : Form) (i : Step) → form_of structs t ≡ Some f → is_legal structs t (path ++ i ∷ []) ≡ true → is_legal structs t path ≡ true
legal_off structs [] t f i e l = ap is_some (size_is structs t.shape t.sizes f e)
legal_off structs (step ∷ path) t f i e l =
    let p = and_parts (in_range t step) (option_map_or (λ u. is_legal structs u (path ++ i ∷ [])) (type_after structs t step) false) l in
    let u = legal_step (type_after structs t step) (λ u. is_legal structs u (path ++ i ∷ [])) p.1 in
    let g = step_form structs t u.0 step f e u.1 in
    and_from (in_range t step) (option_map_or (λ v. is_legal structs v path) (type_after structs t step) false) p.0
    (ap (λ o. option_map_or (λ v. is_legal structs v path) o false) u.1 ∙ legal_off structs path u.0 g.0 i g.1 u.2)

-- ---- the place of the struct

pub record Front (structs : Structs) (t : Sized) (path : List Step) (root : Value) : Type 0 where
  pub place : Located structs t path root
  pub form : Form
  pub of : form_of structs place.type ≡ Some form

pub front : (structs : Structs) (t : Sized) (path : List Step) (i : Step) (root : Value) → Located structs t (path ++ i ∷ []) root → Front structs t path root
front structs t path i root l =
    let fits = ap (compatible structs t (path ++ i ∷ [])) (sym l.points) ∙ l.fits in
    let parts = four_parts (is_aligned_for structs t l.offset) (has_room structs t l.offset) (none_negative t.sizes) (is_legal structs t (path ++ i ∷ [])) fits in
    let room = tested (size structs t) (λ n. int_lt (pos l.offset +ℤ n) (pos (2 ^ 64))) parts.1 in
    let whole = has_form structs t.shape t.sizes room.0 room.1 parts.2 in
    let legal = legal_off structs path t whole.0 i whole.1 parts.3 in
    let p = path_found structs path t whole.0 whole.1 legal in
    record {
      place = record {
        block = l.block;
        offset = l.offset;
        points = l.points;
        fits = ap (compatible structs t path) l.points ∙ all_four (is_aligned_for structs t l.offset) (has_room structs t l.offset) (none_negative t.sizes) (is_legal structs t path) parts.0 parts.1 parts.2 legal;
        type = p.type;
        nested = p.nested;
        shift = p.found.offset;
        shifted = p.place;
      };
      form = p.found.form;
      of = p.form;
    }

same_less : (share : ℤ) (m n : ℕ) → share ≡ pos (suc m) → share ≡ pos (suc n) → m ≡ n
same_less share m n e f = let g : pos (suc m) ≡ pos (suc n) = sym e ∙ f in cc

-- the bytes of a field
pub field_here : (structs : Structs) (share : ℤ) (t : Sized) (path : List Step) (root : Value) (l : Located structs t path root) (less : ℕ) (forms : Fields) (x : List ℕ) (k : Form) (at : ℕ) (e : Datum) (g : Heaplet) →
    share ≡ pos (suc less) → form_of structs l.type ≡ Some (Struct forms) → field_in forms x ≡ Some (record { form = k; offset = at }) → FieldPart structs share t (path ++ Dot x ∷ []) e root g → FormCells less l.block k e (l.offset + l.shift + at) g
field_here structs share t path root l less forms x k at e g is of named (m, cells) =
    let fits = ap (compatible structs t (path ++ Dot x ∷ [])) (sym m.points) ∙ m.fits in
    let parts = four_parts (is_aligned_for structs t m.offset) (has_room structs t m.offset) (none_negative t.sizes) (is_legal structs t (path ++ Dot x ∷ [])) fits in
    let room = tested (size structs t) (λ n. int_lt (pos m.offset +ℤ n) (pos (2 ^ 64))) parts.1 in
    let whole = has_form structs t.shape t.sizes room.0 room.1 parts.2 in
    let legal = legal_off structs path t whole.0 (Dot x) whole.1 parts.3 in
    let p = path_found structs path t whole.0 whole.1 legal in
    let type : p.type ≡ l.type = same_Some {A = Sized} p.type l.type (sym p.nested ∙ l.nested) in
    let form : p.found.form ≡ Struct forms = same_Some {A = Form} p.found.form (Struct forms) (sym (subst (λ (z : Sized). form_of structs z ≡ Some p.found.form) type p.form) ∙ of) in
    let shift : p.found.offset ≡ l.shift = same_shift p.found.offset l.shift (sym p.place ∙ l.shifted) in
    let step : step_in p.found.form (Dot x) ≡ Some (record { form = k; offset = at }) = ap (λ z. step_in z (Dot x)) form ∙ named in
    let on = form_on path whole.0 p.found (record { form = k; offset = at }) (Dot x) p.is step in
    let q = path_found structs (path ++ Dot x ∷ []) t whole.0 whole.1 parts.3 in
    let found : q.found ≡ record { form = k; offset = p.found.offset + at } = same_Some {A = Found} q.found (record { form = k; offset = p.found.offset + at }) (sym q.is ∙ on) in
    let end : q.type ≡ m.type = same_Some {A = Sized} q.type m.type (sym q.nested ∙ m.nested) in
    let far : q.found.offset ≡ m.shift = same_shift q.found.offset m.shift (sym q.place ∙ m.shifted) in
    let reach : q.found.offset ≡ p.found.offset + at = ap (λ (z : Found). z.offset) found in
    let o = opened structs share m.type e m.block (m.offset + m.shift) g cells in
    let forms_same : o.form ≡ k = same_Some {A = Form} o.form q.found.form (sym o.of ∙ subst (λ (z : Sized). form_of structs z ≡ Some q.found.form) end q.form) ∙ ap (λ (z : Found). z.form) found in
    let less_same : o.less ≡ less = same_less share o.less less o.is is in
    let place = same_block m.block m.offset l.block l.offset (sym m.points ∙ l.points) in
    let there : m.offset + m.shift ≡ l.offset + l.shift + at = omega (arith, place.1, shift, far, reach) in
    subst (λ n. FormCells less l.block k e n g) there
    (subst (λ b. FormCells less b k e (m.offset + m.shift) g) place.0
    (subst (λ z. FormCells less m.block z e (m.offset + m.shift) g) forms_same (subst (λ n. FormCells n m.block o.form e (m.offset + m.shift) g) less_same o.holds)))

-- ---- regions

path_off : (defs : Values) (env : Env) (path : List PathStep) (steps : List Step) (x : List ℕ) → PathMeans defs env (path ++ FieldStep x ∷ []) steps → (ahead : List Step) × PathMeans defs env path ahead × (steps ≡ ahead ++ Dot x ∷ [])
path_off defs env [] [] x m = absurd m
path_off defs env [] (Dot y ∷ []) x m = ([], tt, ap (λ z. Dot z ∷ []) (sym m.0))
path_off defs env [] (Dot y ∷ i ∷ steps) x m = absurd m.1
path_off defs env [] (At i ∷ steps) x m = absurd m
path_off defs env (FieldStep y ∷ path) [] x m = absurd m
path_off defs env (FieldStep y ∷ path) (Dot z ∷ steps) x m =
    let r = path_off defs env path steps x m.1 in
    (Dot z ∷ r.0, (m.0, r.1), ap (λ is. Dot z ∷ is) r.2)
path_off defs env (FieldStep y ∷ path) (At i ∷ steps) x m = absurd m
path_off defs env (Subscript t ∷ path) [] x m = absurd m
path_off defs env (Subscript t ∷ path) (Dot z ∷ steps) x m = absurd m
path_off defs env (Subscript t ∷ path) (At i ∷ steps) x m =
    let r = path_off defs env path steps x m.1 in
    (At i ∷ r.0, (m.0, r.1), ap (λ is. At i ∷ is) r.2)

pub number_is : (x y : ℤ) → Number x ≡ Number y → x ≡ y
number_is x y e = cc

module _ (S : Setting) (env : Env) (r : Region) where
  -- an object at a field, where the struct around it lies
  pub record AtField (x : List ℕ) (v : Plain) (g : Heaplet) : Type 0 where
    pub means : RegionMeans S.defs env r
    pub datum : Datum
    pub of_value : Means S.defs env v datum
    pub part : FieldPart S.defs.structs means.share (sized_as r means.sizes) (means.path ++ Dot x ∷ []) datum means.root g

  pub at_field : (x : List ℕ) (v : Plain) (g : Heaplet) → ObjectHolds S env (field_region r x) v g → AtField x v g
  at_field x v g (m, d, means, part) =
      let p = path_off S.defs env r.path m.path x m.of_path in
      record {
        means = record { share = m.share; sizes = m.sizes; path = p.0; root = m.root; of_share = m.of_share; of_sizes = m.of_sizes; of_path = p.1; of_root = m.of_root };
        datum = d;
        of_value = means;
        part = subst (λ is. FieldPart S.defs.structs m.share (sized_as r m.sizes) is d m.root g) p.2 part;
      }

  -- all lie at one place
  pub at_one : (x : List ℕ) (v : Plain) (g : Heaplet) (m : RegionMeans S.defs env r) (a : AtField x v g) → FieldPart S.defs.structs m.share (sized_as r m.sizes) (m.path ++ Dot x ∷ []) a.datum m.root g
  at_one x v g m a =
      let structs = S.defs.structs in
      let k = a.means in
      let share : k.share ≡ m.share = number_is k.share m.share (one_value S.defs k.of_share (Number m.share) m.of_share) in
      subst (λ z. FieldPart structs m.share (sized_as r m.sizes) (m.path ++ Dot x ∷ []) a.datum z g) (one_root S.defs env r r.share r.share m k)
      (subst (λ is. FieldPart structs m.share (sized_as r m.sizes) (is ++ Dot x ∷ []) a.datum k.root g) (one_steps S.defs env r r.share r.share m k)
      (subst (λ ns. FieldPart structs m.share (sized_as r ns) (k.path ++ Dot x ∷ []) a.datum k.root g) (one_sizes S.defs env r r.share r.share m k)
      (subst (λ z. FieldPart structs z (sized_as r k.sizes) (k.path ++ Dot x ∷ []) a.datum k.root g) share a.part)))
