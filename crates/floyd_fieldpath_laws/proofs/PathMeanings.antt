-- Items and updates along a path, step by step.
use Rattle.std.proofs.Common.{◌≡◌, ℕ, ◌*◌, ◌<◌, Bool, true, false, ℤ, pos, negsuc, List, [], ◌∷◌, length, Some, None, Ok, All, inl, inr, refl, sym, ◌∙◌, ap, ap₂, subst, bytes_eq, arith, lt-ltb, ltb-true}
use Rattle.std.specs.Prelude.{if◌then◌else◌, option_map, option_and_then, find, int_le, int_lt, nat_lt}
use Rattle.std.proofs.lemmas.Bool.{and_parts, cond-true}
use Rattle.floyd_ctypes.specs.declared.field.Field.{Field}
use Rattle.floyd_ctypes.specs.Layout.{layout, nothing_laid}
use Rattle.floyd_ctypes.specs.Structs.{Structs, completes, fields_of}
use Rattle.floyd_tree_sorts.specs.declared.shape.Shape.{Shape, more_of-Shape, end_of-Shape}
use Rattle.floyd_tree_sorts.specs.declared.shape.Shape as s
use Rattle.floyd_tree_sorts.specs.declared.sorts.Sort.{Sort}
use Rattle.floyd_tree_sorts.specs.Sorts.{list_sort}
use Rattle.floyd_tree.specs.declared.paths.PathStep.{PathStep}
use Rattle.floyd_tree.specs.declared.paths.PathStep.TheVariants.{Field as FieldStep, Subscript}
use Rattle.floyd_tree.specs.Plain.{Plain, head_of}
use Rattle.floyd_tree.specs.Types.{SizedType}
use Rattle.floyd_tree.specs.WellSorted.{sort_of}
use Rattle.floyd_tree_values.specs.BuiltIns.{Env}
use Rattle.floyd_tree_values.specs.Data.{Datum, Data, Number, Val, Seq, Tree, Pair, listed}
use Rattle.floyd_tree_values.specs.Defaults.{fields_sort, type_sort, value_sort}
use Rattle.floyd_tree_values.specs.Means.{Defs, Means}
use Rattle.floyd_assert_cells.specs.Forms.{Form, Array, Struct, Fields, form_of, form_size, shape_form, struct_form}
use Rattle.floyd_assert_cells.specs.Items.{Found, field_in, item_in, on_step, step_in}
use Rattle.floyd_assert_cells.specs.Items as it
use Rattle.floyd_assert_cells.specs.Types.{Sized, Step, Dot, At, in_range, is_below, is_legal, item_type, sized}
use Rattle.floyd_assert_cells.specs.Types as n
use Rattle.floyd_assert_cells.proofs.FormLaws.{layout_is, mapped, shape_form_of, whole_struct}
use Rattle.floyd_assert_cells.proofs.PathForms.{find_field}
use Rattle.floyd_fieldpath.specs.Nested.{type_after}
use Rattle.floyd_fieldpath.specs.Projections.{component, default_of, field_item, is_default, item, of_fields}
use Rattle.floyd_fieldpath.specs.Updates.{with_component, with_field, with_item}
use Rattle.floyd_fieldpath_laws.specs.Conditions.{HasSizes, IsStep}
use Rattle.floyd_fieldpath_laws.proofs.AddressMeanings.{StepMeans, TypeMeans, after_means, answered}
use Rattle.floyd_fieldpath_laws.proofs.Blanks.{IsShaped, IsSolid, element_shaped, field_blank, field_shaped, solid}
use Rattle.floyd_fieldpath_laws.proofs.ItemMeanings.{FieldsMean, component_means, default_means, element_means, means_blank}
use Rattle.floyd_fieldpath_laws.proofs.SortedItems.{item_made}
use Rattle.floyd_fieldpath_laws.proofs.Tests.{tested}
use Rattle.floyd_fieldpath_laws.proofs.TypeSorts.{IsField, element_sort, fields_have, is_element, is_field, same_sort_of, sizes_after, sort_after, sorts}
use Rattle.floyd_fieldpath_laws.proofs.UpdateMeanings.{Either, component_updated_means, element_updated_means}

module _ (defs : Defs) (env : Env) where
  -- a value of a type, with its datum, which is shaped as the type's form
  pub record Held (t : SizedType) (T : Sized) (sort : Sort) (f : Form) (v : Plain) (d : Datum) : Type 0 where
    pub means : TypeMeans defs env t T
    pub sizes : HasSizes t
    pub has : value_sort defs.structs t.shape ≡ Some sort
    pub form : form_of defs.structs T ≡ Some f
    pub shaped : IsShaped f d
    pub sorted : sort_of v ≡ Some sort
    pub value : Means defs env v d

  held_solid : (t : SizedType) (T : Sized) (sort : Sort) (f : Form) (v : Plain) (d : Datum) → Held t T sort f v d → IsSolid f
  held_solid t T sort f v d h = solid defs.structs T f sort h.form (ap (value_sort defs.structs) h.means.shape ∙ h.has)

  -- ---- a field

  -- the fields of a struct in the type, the form and the sort
  pub record AtField (t : SizedType) (T : Sized) (sort : Sort) (f : Form) (d : Datum) (x : List ℕ) (u : SizedType) : Type 0 where
    pub of_type : IsField defs.structs t.shape x u
    pub fields : List Field
    pub fields_are : fields_of defs.structs of_type.tag ≡ Some fields
    pub named : find (λ k. bytes_eq x k.name) fields ≡ Some of_type.field
    pub forms : Fields
    pub form_is : Struct forms ≡ f
    pub all : FieldsMean defs env nothing_laid fields forms sort d
    pub found : Found
    pub there : field_in forms x ≡ Some found
    pub form : form_of defs.structs (sized of_type.field.ty) ≡ Some found.form

  at_field : (t : SizedType) (T : Sized) (sort : Sort) (f : Form) (v : Plain) (d : Datum) (x : List ℕ) (u : SizedType) → Held t T sort f v d → type_after defs.structs t (FieldStep x) ≡ Some u → AtField t T sort f d x u
  at_field t T sort f v d x u h e =
      let structs = defs.structs in
      let k = is_field structs t.shape x u e in
      let shape : T.shape ≡ s.Struct k.tag = h.means.shape ∙ k.shape_is in
      let w = whole_struct structs k.tag f (ap (λ z. shape_form (struct_form (completes structs) structs) z T.sizes) (sym shape) ∙ h.form) in
      let z = fields_have structs k.tag sort (ap (value_sort structs) (sym k.shape_is) ∙ h.has) in
      let same_some : Some z.fields ≡ Some w.fields = sym z.is ∙ w.is in
      let same : z.fields ≡ w.fields = cc in
      let named : find (λ k. bytes_eq x k.name) w.fields ≡ Some k.field = ap (option_and_then (find (λ k. bytes_eq x k.name))) (sym w.is) ∙ k.found in
      let found = find_field (struct_form (completes structs) structs) (layout structs) (layout_is structs) nothing_laid w.fields x k.field w.forms w.laid named in
      let all_solid = subst IsSolid (sym w.same) (held_solid t T sort f v d h) in
      record {
        of_type = k;
        fields = w.fields;
        fields_are = w.is;
        named = named;
        forms = w.forms;
        form_is = w.same;
        all = record { form = w.laid; sorted = subst (λ fs. fields_sort (sorts structs) fs ≡ Some sort) same z.has; solid = all_solid.1; shaped = subst (λ g. IsShaped g d) (sym w.same) h.shaped };
        found = found.found;
        there = found.is;
        form = shape_form_of (struct_form (completes structs) structs) k.field.ty ∙ found.form;
      }

  -- ---- an element

  pub record AtElement (t : SizedType) (T : Sized) (sort : Sort) (f : Form) (d : Datum) (place : ℤ) (u : SizedType) (U : Sized) : Type 0 where
    pub item : Form
    pub count : ℕ
    pub form_is : f ≡ Array item count
    pub form : form_of defs.structs U ≡ Some item
    pub at : ℕ
    pub place_is : place ≡ pos at
    pub items : Data
    pub datum : d ≡ Seq items
    pub within : at < length (listed items)
    pub below : at < count
    pub each : All (IsShaped item) (listed items)

  at_element : (structs : Structs) (element : Shape) (zs : List ℤ) (z place : ℤ) (f : Form) (d : Datum) (t u : SizedType) (T U : Sized) (sort : Sort) → structs ≡ defs.structs → U ≡ record { shape = element; sizes = zs } →
      shape_form (struct_form (completes defs.structs) defs.structs) (s.Array' tt (more_of-Shape element end_of-Shape)) (z ∷ zs) ≡ Some f → IsShaped f d → is_below (z ∷ zs) place ≡ true → AtElement t T sort f d place u U
  at_element structs element zs (negsuc c) place f d t u T U sort q r e h b = absurd cc
  at_element structs element zs (pos c) (negsuc i) f d t u T U sort q r e h b = absurd cc
  at_element structs element zs (pos c) (pos i) f d t u T U sort q r e h b =
      let g = mapped (λ g. Array g c) (shape_form (struct_form (completes defs.structs) defs.structs) element zs) f e in
      let below : i < c = ltb-true i c (and_parts (int_le (pos 0) (pos i)) (int_lt (pos i) (pos c)) b).1 in
      let k = array_datum g.0 c d (subst (λ y. IsShaped y d) (sym g.2) h) in
      record {
        item = g.0;
        count = c;
        form_is = sym g.2;
        form = ap (form_of defs.structs) r ∙ g.1;
        at = i;
        place_is = refl;
        items = k.0;
        datum = k.1;
        within = omega (arith, k.2, below);
        below = below;
        each = k.3;
      }
    where
      array_datum : (g : Form) (c : ℕ) (d : Datum) → IsShaped (Array g c) d → (items : Data) × (d ≡ Seq items) × (length (listed items) ≡ c) × All (IsShaped g) (listed items)
      array_datum g c (Seq items) h = (items, refl, h.0, h.1)
      array_datum g c (Number z) h = absurd h
      array_datum g c (Val v) h = absurd h
      array_datum g c (Tree t) h = absurd h
      array_datum g c (Pair x y) h = absurd h

  element_there : (t : SizedType) (T : Sized) (sort : Sort) (f : Form) (v : Plain) (d : Datum) (i : Plain) (place : ℤ) (u : SizedType) (U : Sized) → Held t T sort f v d → type_after defs.structs t (Subscript i) ≡ Some u →
      n.type_after defs.structs T (At place) ≡ Some U → in_range T (At place) ≡ true → AtElement t T sort f d place u U
  element_there t T sort f v d i place u U h e g b =
      let k = is_element t.shape t.sizes u e in
      let shape : T.shape ≡ s.Array' tt (more_of-Shape u.shape end_of-Shape) = h.means.shape ∙ k.shape_is in
      by T.sizes refl shape
    where
      by : (zs : List ℤ) → T.sizes ≡ zs → T.shape ≡ s.Array' tt (more_of-Shape u.shape end_of-Shape) → AtElement t T sort f d place u U
      by [] p q = let wrong : false ≡ true = ap (λ zs. is_below zs place) (sym p) ∙ b in absurd cc
      by (z ∷ zs) p q =
          let type : Some (record { shape = u.shape; sizes = zs }) ≡ Some U = sym (ap₂ item_type q p) ∙ g in
          let same : ◌≡◌ {A = Sized} U (record { shape = u.shape; sizes = zs }) = cc in
          at_element defs.structs u.shape zs z place f d t u T U sort refl same
          (ap₂ (shape_form (struct_form (completes defs.structs) defs.structs)) (sym q) (sym p) ∙ h.form) h.shaped (ap (λ ys. is_below ys place) (sym p) ∙ b)

  -- ---- a step

  -- where a step leads, with what stands there
  pub record Stepped (t : SizedType) (T : Sized) (sort : Sort) (f : Form) (v : Plain) (d : Datum) (step : PathStep) (i : Step) (u : SizedType) : Type 0 where
    pub type : Sized
    pub after : n.type_after defs.structs T i ≡ Some type
    pub means : TypeMeans defs env u type
    pub item_sort : Sort
    pub has : value_sort defs.structs u.shape ≡ Some item_sort
    pub found : Found
    pub there : step_in f i ≡ Some found
    pub form : form_of defs.structs type ≡ Some found.form
    pub shaped : IsShaped found.form (item_in f i d)
    pub gives_item : (w : Plain) → item defs.structs t u step v ≡ Ok w → Means defs env w (item_in f i d)
    pub gives_update : (new w : Plain) (e : Datum) → sort_of new ≡ Some item_sort → Means defs env new e → with_item defs.structs t.shape step v new ≡ Ok w → Means defs env w (it.with_item f i d e)

  field_stepped : (t : SizedType) (T : Sized) (sort : Sort) (f : Form) (v : Plain) (d : Datum) (x y : List ℕ) (u : SizedType) → Held t T sort f v d → x ≡ y → type_after defs.structs t (FieldStep x) ≡ Some u → Stepped t T sort f v d (FieldStep x) (Dot y) u
  field_stepped t T sort f v d x y u h p e =
      let structs = defs.structs in
      let a = at_field t T sort f v d x u h e in
      let b = after_means defs env t u T (FieldStep x) (Dot y) h.means p e in
      let r = sort_after structs t u (FieldStep x) sort e h.has in
      let there = sizes_after structs t u (FieldStep x) h.sizes e in
      let kind : n.type_after structs T (Dot x) ≡ Some (sized a.of_type.field.ty) = ap (λ z. n.after_dot structs z x) (h.means.shape ∙ a.of_type.shape_is) ∙ ap (option_map (λ g. sized g.ty)) a.of_type.found in
      let types : Some b.0 ≡ Some (sized a.of_type.field.ty) = sym b.1 ∙ ap (λ z. n.type_after structs T (Dot z)) (sym p) ∙ kind in
      let same : ◌≡◌ {A = Sized} b.0 (sized a.of_type.field.ty) = cc in
      let form : form_of structs b.0 ≡ Some a.found.form = ap (form_of structs) same ∙ a.form in
      let typed : type_sort (sorts structs) a.of_type.field.ty ≡ Some r.0 = sym (same_sort_of (sorts structs) a.of_type.field.ty) ∙ ap (λ (z : SizedType). value_sort structs z.shape) (sym a.of_type.type) ∙ r.1 in
      subst (λ z. Stepped t T sort f v d (FieldStep x) (Dot z) u) p
      (subst (λ z. Stepped t T sort z v d (FieldStep x) (Dot x) u) a.form_is
      (record {
        type = b.0;
        after = ap (λ z. n.type_after structs T (Dot z)) p ∙ b.1;
        means = b.2;
        item_sort = r.0;
        has = r.1;
        found = a.found;
        there = a.there;
        form = form;
        shaped = field_shaped x a.found a.forms d a.all.shaped a.there;
        gives_item = λ w c. field_item_means t u T b.0 sort f v d x w h a r.0 there b.2 r.1 form c;
        gives_update = λ new w g q m c. field_updated_means t u T sort f v d x new w g h a r.0 typed q m c;
      }))
    where
      field_item_means : (t u : SizedType) (T U : Sized) (sort : Sort) (f : Form) (v : Plain) (d : Datum) (x : List ℕ) (w : Plain) → Held t T sort f v d → (a : AtField t T sort f d x u) (r : Sort) → HasSizes u → TypeMeans defs env u U →
          value_sort defs.structs u.shape ≡ Some r → form_of defs.structs U ≡ Some a.found.form → field_item defs.structs t.shape u x v ≡ Ok w → Means defs env w (it.field_value a.forms x d)
      field_item_means t u T U sort f v d x w h a r z m q g c =
          let here : (if is_default (head_of v) then default_of defs.structs u else of_fields (fields_of defs.structs a.of_type.tag) (λ fields. component defs.structs u fields x v)) ≡ Ok w = ap (λ k. field_item defs.structs k u x v) (sym a.of_type.shape_is) ∙ c in
          tested (Means defs env w (it.field_value a.forms x d)) (is_default (head_of v)) _ _ (Ok w) here
          (λ b j. subst (Means defs env w) (sym (field_blank x a.found a.forms d a.all.solid a.all.shaped (means_blank defs env v d b h.value) a.there)) (default_means defs env u U r a.found.form w z m q g j))
          (λ b j.
          let made : component defs.structs u a.fields x v ≡ Ok w = ap (λ o. of_fields o (λ fields. component defs.structs u fields x v)) (sym a.fields_are) ∙ j in
          component_means defs env u U r a.found x nothing_laid a.fields a.forms sort v w d z m q g a.there a.all h.sorted h.value made)

      field_updated_means : (t u : SizedType) (T : Sized) (sort : Sort) (f : Form) (v : Plain) (d : Datum) (x : List ℕ) (new w : Plain) (e : Datum) → Held t T sort f v d → (a : AtField t T sort f d x u) (r : Sort) → type_sort (sorts defs.structs) a.of_type.field.ty ≡ Some r →
          sort_of new ≡ Some r → Means defs env new e → with_field defs.structs t.shape x v new ≡ Ok w → Means defs env w (it.with_field a.forms x d e)
      field_updated_means t u T sort f v d x new w e h a r typed q m c =
          let here : of_fields (fields_of defs.structs a.of_type.tag) (λ fields. with_component defs.structs fields x v new) ≡ Ok w = ap (λ k. with_field defs.structs k x v new) (sym a.of_type.shape_is) ∙ c in
          let made : with_component defs.structs a.fields x v new ≡ Ok w = ap (λ o. of_fields o (λ fields. with_component defs.structs fields x v new)) (sym a.fields_are) ∙ here in
          component_updated_means defs env r a.found a.of_type.field x nothing_laid a.fields a.forms sort v new w d e typed a.named a.there a.all (either (is_default (head_of v)) refl) q m made
        where
          either : (b : Bool) → is_default (head_of v) ≡ b → Either defs env sort v d
          either true p = inl (p, means_blank defs env v d p h.value)
          either false p = inr (p, h.sorted, h.value)

  element_stepped : (t : SizedType) (T : Sized) (sort : Sort) (f : Form) (v : Plain) (d : Datum) (i : Plain) (place : ℤ) (u : SizedType) → Held t T sort f v d → IsStep (Subscript i) → Means defs env i (Number place) → in_range T (At place) ≡ true →
      type_after defs.structs t (Subscript i) ≡ Some u → Stepped t T sort f v d (Subscript i) (At place) u
  element_stepped t T sort f v d i place u h z m b e =
      let structs = defs.structs in
      let k = after_means defs env t u T (Subscript i) (At place) h.means m e in
      let a = element_there t T sort f v d i place u k.0 h e k.1 b in
      let r = element_sort structs t u sort (is_element t.shape t.sizes u e) h.has in
      let there = sizes_after structs t u (Subscript i) h.sizes e in
      let item_solid = solid structs k.0 a.item r.0 a.form (ap (value_sort structs) k.2.shape ∙ r.1) in
      let number : Means defs env i (Number (pos a.at)) = subst (λ y. Means defs env i (Number y)) a.place_is m in
      let value : Means defs env v (Seq a.items) = subst (Means defs env v) a.datum h.value in
      let sorted : sort_of v ≡ Some (list_sort r.0) = h.sorted ∙ ap Some (sym r.2) in
      let found : Found = record { form = a.item; offset = form_size a.item * a.at } in
      subst (λ y. Stepped t T sort f v d (Subscript i) (At y) u) (sym a.place_is)
      (subst (λ y. Stepped t T sort y v d (Subscript i) (At (pos a.at)) u) (sym a.form_is)
      (subst (λ y. Stepped t T sort (Array a.item a.count) v y (Subscript i) (At (pos a.at)) u) (sym a.datum)
      (record {
        type = k.0;
        after = ap (λ y. n.type_after structs T (At y)) (sym a.place_is) ∙ k.1;
        means = k.2;
        item_sort = r.0;
        has = r.1;
        found = found;
        there = cond-true (nat_lt a.at a.count) (Some found) None (lt-ltb a.at a.count a.below);
        form = a.form;
        shaped = element_shaped a.item a.items a.at a.within a.each;
        gives_item = λ w c. element_means defs env u k.0 r.0 a.item a.count i v w a.at a.items there k.2 r.1 a.form item_solid z sorted number value a.each a.within c;
        gives_update = λ new w g q o c. element_updated_means defs env i v new w r.0 a.at a.items g z sorted q number value o c;
      })))

  pub stepped : (t : SizedType) (T : Sized) (sort : Sort) (f : Form) (v : Plain) (d : Datum) (step : PathStep) (i : Step) (u : SizedType) → Held t T sort f v d → IsStep step → StepMeans defs env step i → in_range T i ≡ true →
      type_after defs.structs t step ≡ Some u → Stepped t T sort f v d step i u
  stepped t T sort f v d (FieldStep x) (Dot y) u h z m b e = field_stepped t T sort f v d x y u h m e
  stepped t T sort f v d (Subscript i) (At place) u h z m b e = element_stepped t T sort f v d i place u h z m b e
  stepped t T sort f v d (FieldStep x) (At place) u h z m b e = absurd m
  stepped t T sort f v d (Subscript i) (Dot y) u h z m b e = absurd m

  -- what stands after a step is held
  pub next_held : (t : SizedType) (T : Sized) (sort : Sort) (f : Form) (v w : Plain) (d : Datum) (step : PathStep) (i : Step) (u : SizedType) → (h : Held t T sort f v d) → IsStep step → type_after defs.structs t step ≡ Some u → (p : Stepped t T sort f v d step i u) →
      item defs.structs t u step v ≡ Ok w → Held u p.type p.item_sort p.found.form w (item_in f i d)
  next_held t T sort f v w d step i u h z e p c =
      record {
        means = p.means;
        sizes = sizes_after defs.structs t u step h.sizes e;
        has = p.has;
        form = p.form;
        shaped = p.shaped;
        sorted = answered p.item_sort (item defs.structs t u step v) w (item_made defs.structs t u step v sort p.item_sort h.sizes z e h.has p.has h.sorted) c;
        value = p.gives_item w c;
      }
