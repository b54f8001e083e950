-- Along a form, from the type of a part: the numbers of its subscripts, the type at its end, and how far it leads.
use Rattle.std.proofs.Common.{◌≡◌, ℕ, true, ℤ, pos, ◌+ℤ◌, ◌*ℤ◌, List, [], ◌∷◌, ◌++◌, map, Option, Some, None, is_some, refl, sym, ap, ap₂, subst, ◌∙◌, if◌then◌else◌}
use Rattle.std.specs.Prelude.{option_and_then, option_map}
use Rattle.std.proofs.lemmas.List.Elements.{All-cons, All-nil}
use Rattle.std.proofs.lemmas.Option.{cond_some, same_Some}
use Rattle.std.proofs.Math.IntN.{*ℤ-zero}
use Rattle.floyd_ctypes.specs.declared.ctype.CType.{CType}
use Rattle.floyd_ctypes.specs.declared.field.Field as d
use Rattle.floyd_ctypes.specs.declared.layout.Layout.{Layout}
use Rattle.floyd_ctypes.specs.Layout as c
use Rattle.floyd_tree_sorts.specs.declared.shape.Shape.{Shape, Struct, more_of-Shape, end_of-Shape}
use Rattle.floyd_tree_sorts.specs.declared.shape.Shape as s
use Rattle.floyd_tree.specs.declared.paths.PathStep.{PathStep}
use Rattle.floyd_tree.specs.declared.paths.PathStep.TheVariants.{Field, Subscript}
use Rattle.floyd_tree.specs.Plain.{Plain, plains}
use Rattle.floyd_tree.specs.Types.{SizedType}
use Rattle.floyd_tree_values.specs.BuiltIns.{Env}
use Rattle.floyd_tree_values.specs.Data.{Datum, Number}
use Rattle.floyd_tree_values.specs.Means.{AllMean, Defs, Means}
use Rattle.floyd_tree_values.proofs.OneValue.{one_list, one_value}
use Rattle.floyd_assert_cells.specs.Types.{Sized, Step, Dot, At, after_dot, dot_offset, item_type, offset_at, size, size_by, sized, sizes_of, step_offset}
use Rattle.floyd_assert_cells.specs.Types as z
use Rattle.floyd_assert_cells.proofs.FormLaws.{chained, mapped}
use Rattle.floyd_assert_cells.proofs.ObjectLaws.{layouts_agree}
use Rattle.floyd_assert_meaning.specs.Parts.{PathMeans}
use Rattle.floyd_fieldpath.specs.Nested.{sized_type, type_after, type_at}
use Rattle.floyd_fieldpath_laws.specs.Conditions.{IsPath, IsStep}
use Rattle.floyd_fieldpath_laws.proofs.AddressMeanings.{StepMeans, TypeMeans, first_size, literals_mean}
use Rattle.floyd_fieldpath_laws.proofs.TypeSorts.{is_element, is_field}
use Rattle.floyd_symexpr_paths.specs.declared.lvalue.Taken.{Taken}
use Rattle.floyd_symexpr_paths.specs.Locating.{agreeing_end, agreeing_step, agrees_at}
use Rattle.floyd_symexpr_paths.specs.Places.{path_of}
use Rattle.floyd_symexpr_paths.proofs.SameLemmas.{same_type_true}
use Rattle.floyd_symexpr_soundness.specs.Laws.{AreLaidOut}
use Rattle.floyd_symexpr_soundness.proofs.Adding.{Adds, StepAdds}
use Rattle.floyd_symexpr_soundness.proofs.Offsets.{field_lies}

-- the numbers of literals are those that they are of
numbers_same : (ns ms : List ℤ) → map Number ns ≡ map Number ms → ns ≡ ms
numbers_same [] [] e = refl
numbers_same [] (m ∷ ms) e = absurd cc
numbers_same (n ∷ ns) [] e = absurd cc
numbers_same (n ∷ ns) (m ∷ ms) e =
    let first : ◌≡◌ {A = Datum} (Number n) (Number m) = cc in
    let rest : map Number ns ≡ map Number ms = cc in
    let same : n ≡ m = cc in
    ap₂ (λ x xs. x ∷ xs) same (numbers_same ns ms rest)

module _ (defs : Defs) (env : Env) (laid : AreLaidOut defs.structs) where
  -- a step of a form from a type on
  record Stepped (t a : SizedType) (T : Sized) (step : PathStep) (bytes : ℤ) : Type 0 where
    pub number : Step
    pub means : StepMeans defs env step number
    pub one : IsStep step
    pub type : Sized
    pub after : z.type_after defs.structs T number ≡ Some type
    pub type_means : TypeMeans defs env a type
    pub count : ℤ
    pub sized : size defs.structs type ≡ Some count
    pub shifted : step_offset defs.structs T number ≡ Some bytes

  field_step : (t a : SizedType) (T : Sized) (x : List ℕ) (tag : List ℕ) (o : ℕ) (bytes : ℤ) → TypeMeans defs env t T → t.shape ≡ Struct tag → c.offset defs.structs tag x ≡ Some o → bytes ≡ pos o → type_after defs.structs t (Field x) ≡ Some a → Stepped t a T (Field x) bytes
  field_step t a T x tag o bytes m shape at is e =
      let structs = defs.structs in
      let f = is_field structs t.shape x a e in
      let l = field_lies structs f.tag x f.field laid f.found in
      let whole : T.shape ≡ Struct f.tag = m.shape ∙ f.shape_is in
      let own : T.shape ≡ Struct tag = m.shape ∙ shape in
      let here : TypeMeans defs env (sized_type f.field.ty) (sized f.field.ty) = record { shape = refl; sizes = literals_mean defs env (sizes_of f.field.ty) } in
      record {
        number = Dot x;
        means = refl;
        one = tt;
        type = sized f.field.ty;
        after = ap (λ w. after_dot structs w x) whole ∙ ap (option_map (λ (g : d.Field). sized g.ty)) f.found;
        type_means = subst (λ w. TypeMeans defs env w (sized f.field.ty)) (sym f.type) here;
        count = pos l.form.size;
        sized = (layouts_agree structs f.field.ty).0 ∙ ap (option_map pos) (ap (option_map (λ (g : Layout). g.size)) l.has);
        shifted = ap (λ w. dot_offset structs w x) own ∙ ap (option_map pos) at ∙ ap Some (sym is);
      }

  -- an array, with its number of elements, and the type of these
  record IsArray (t a : SizedType) (T : Sized) : Type 0 where
    pub type : Sized
    pub after : (y : ℤ) → z.type_after defs.structs T (At y) ≡ Some type
    pub means : TypeMeans defs env a type
    pub count : ℤ
    pub sized : size defs.structs type ≡ Some count
    pub shifted : (y : ℤ) → step_offset defs.structs T (At y) ≡ Some (count *ℤ y)

  is_array : (t a : SizedType) (T : Sized) (i : Plain) (m : ℤ) → TypeMeans defs env t T → size defs.structs T ≡ Some m → type_after defs.structs t (Subscript i) ≡ Some a → IsArray t a T
  is_array t a T i m means whole e =
      let structs = defs.structs in
      let k = is_element t.shape t.sizes a e in
      let q = first_size defs env k.count a.sizes T.sizes (subst (λ ts. AllMean defs env (plains ts) (map Number T.sizes)) k.sizes_are means.sizes) in
      let shape : T.shape ≡ s.Array' tt (more_of-Shape a.shape end_of-Shape) = means.shape ∙ k.shape_is in
      let type : Sized = record { shape = a.shape; sizes = q.1 } in
      let items : item_type T.shape T.sizes ≡ Some type = ap₂ item_type shape q.2 in
      let b = mapped (λ bytes. bytes *ℤ q.0) (size structs type) m (ap₂ (size_by structs) (sym shape) (sym q.2) ∙ whole) in
      record {
        type = type;
        after = λ y. items;
        means = record { shape = refl; sizes = q.4 };
        count = b.0;
        sized = b.1;
        shifted = λ y. ap (option_and_then (λ u. option_map (λ bytes. bytes *ℤ y) (size structs u))) items ∙ ap (option_map (λ bytes. bytes *ℤ y)) b.1;
      }

  -- the size of the elements of a type of C
  element_count : (a : SizedType) (T : Sized) (t : CType) (count : ℤ) → TypeMeans defs env a T → a ≡ sized_type t → size defs.structs T ≡ Some count → (n : ℕ) × (c.size defs.structs t ≡ Some n) × (count ≡ pos n)
  element_count a T t count m is e =
      let structs = defs.structs in
      let shape : T.shape ≡ (sized t).shape = m.shape ∙ ap (λ (w : SizedType). w.shape) is in
      let sizes : T.sizes ≡ sizes_of t =
      numbers_same T.sizes (sizes_of t) (sym (one_list defs (literals_mean defs env (sizes_of t)) (map Number T.sizes) (subst (λ (w : SizedType). AllMean defs env (plains w.sizes) (map Number T.sizes)) is m.sizes))) in
      let whole : size structs (sized t) ≡ Some count = ap₂ (size_by structs) (sym shape) (sym sizes) ∙ e in
      let b = mapped pos (c.size structs t) count (sym (layouts_agree structs t).0 ∙ whole) in
      (b.0, b.1, sym b.2)

  subscript_step : (t a : SizedType) (T : Sized) (i : Plain) (y bytes : ℤ) → IsStep (Subscript i) → Means defs env i (Number y) → (r : IsArray t a T) → bytes ≡ r.count *ℤ y → Stepped t a T (Subscript i) bytes
  subscript_step t a T i y bytes one means r is =
      record {
        number = At y;
        means = means;
        one = one;
        type = r.type;
        after = r.after y;
        type_means = r.means;
        count = r.count;
        sized = r.sized;
        shifted = r.shifted y ∙ ap Some (sym is);
      }

  one_step : (t a : SizedType) (T : Sized) (step : PathStep) (ty : Option SizedType) (m bytes : ℤ) → TypeMeans defs env t T → size defs.structs T ≡ Some m → type_after defs.structs t step ≡ Some a → agrees_at t a step ty ≡ true → StepAdds defs env step ty bytes → Stepped t a T step bytes
  one_step t a T (Field x) (Some w) m bytes means whole e agrees adds =
      field_step t a T x adds.tag adds.place bytes means (ap (λ (u : SizedType). u.shape) (same_type_true t w agrees) ∙ adds.shape) adds.at adds.bytes e
  one_step t a T (Field x) None m bytes means whole e agrees adds = absurd adds
  one_step t a T (Subscript i) (Some w) m bytes means whole e agrees adds =
      let r = is_array t a T i m means whole e in
      let n = element_count a r.type adds.element r.count r.means (same_type_true a w agrees ∙ adds.is) r.sized in
      subscript_step t a T i adds.subscript bytes adds.sorted adds.means r (adds.bytes n.0 n.1 ∙ ap (λ k. k *ℤ adds.subscript) (sym n.2))
  one_step t a T (Subscript i) None m bytes means whole e agrees adds =
      let r = is_array t a T i m means whole e in
      subscript_step t a T i (pos 0) bytes adds.sorted adds.means r (adds.bytes ∙ sym (*ℤ-zero r.count))

  -- ---- a whole form

  pub record Walked (t u : SizedType) (T : Sized) (form : List Taken) (bytes : ℤ) : Type 0 where
    pub steps : List Step
    pub means : PathMeans defs env (path_of form) steps
    pub path : IsPath (path_of form)
    pub type : Sized
    pub type_means : TypeMeans defs env u type
    pub nested : z.type_at defs.structs T steps ≡ Some type
    pub shifted : offset_at defs.structs T steps ≡ Some bytes
    pub typed : type_at defs.structs t (path_of form) ≡ Some u
    pub count : ℤ
    pub sized : size defs.structs type ≡ Some count

  path_more : (step : PathStep) (i : Step) (path : List PathStep) (steps : List Step) → StepMeans defs env step i → PathMeans defs env path steps → PathMeans defs env (step ∷ path) (i ∷ steps)
  path_more (Field x) (Dot y) path steps m k = (m, k)
  path_more (Subscript i) (At y) path steps m k = (m, k)
  path_more (Field x) (At y) path steps m k = absurd m
  path_more (Subscript i) (Dot y) path steps m k = absurd m

  sized_type_at : (o : Option ℤ) (T : Sized) (m : ℤ) → o ≡ Some m → (if is_some o then Some T else None) ≡ Some T
  sized_type_at o T m e = ap (λ q. if is_some q then Some T else None) e

  sized_offset_at : (o : Option ℤ) (m bytes : ℤ) → o ≡ Some m → bytes ≡ pos 0 → (if is_some o then Some (pos 0) else None) ≡ Some bytes
  sized_offset_at o m bytes e f = ap (λ q. if is_some q then Some (pos 0) else None) e ∙ ap Some (sym f)

  pub walk : (form : List Taken) (t u : SizedType) (T : Sized) (m bytes : ℤ) → TypeMeans defs env t T → size defs.structs T ≡ Some m → agreeing_end defs.structs t form ≡ Some u → Adds defs env form bytes → Walked t u T form bytes
  walk [] t u T m bytes means whole e adds =
      let same : t ≡ u = same_Some t u e in
      record {
        steps = [];
        means = tt;
        path = All-nil IsStep;
        type = T;
        type_means = subst (λ w. TypeMeans defs env w T) same means;
        nested = sized_type_at (size defs.structs T) T m whole;
        shifted = sized_offset_at (size defs.structs T) m bytes whole adds;
        typed = ap Some same;
        count = m;
        sized = whole;
      }
  walk (taken ∷ form) t u T m bytes means whole e adds =
      let structs = defs.structs in
      let a = chained (λ after. agreeing_end structs after form) (agreeing_step structs t taken) u e in
      let b = chained (λ after. if agrees_at t after taken.step taken.ty then Some after else None) (type_after structs t taken.step) a.0 a.1 in
      let g = cond_some (agrees_at t b.0 taken.step taken.ty) b.0 a.0 b.2 in
      let after : type_after structs t taken.step ≡ Some a.0 = b.1 ∙ ap Some g.1 in
      let agrees : agrees_at t a.0 taken.step taken.ty ≡ true = subst (λ w. agrees_at t w taken.step taken.ty ≡ true) g.1 g.0 in
      let p = one_step t a.0 T taken.step taken.ty m adds.0 means whole after agrees adds.2 in
      let r = walk form a.0 u p.type p.count adds.1 p.type_means p.sized a.2 adds.3 in
      record {
        steps = p.number ∷ r.steps;
        means = path_more taken.step p.number (path_of form) r.steps p.means r.means;
        path = All-cons IsStep taken.step (path_of form) p.one r.path;
        type = r.type;
        type_means = r.type_means;
        nested = ap (option_and_then (λ w. z.type_at structs w r.steps)) p.after ∙ r.nested;
        shifted = ap (option_and_then (λ o. option_and_then (λ w. option_map (λ rest. o +ℤ rest) (offset_at structs w r.steps)) (z.type_after structs T p.number))) p.shifted
            ∙ ap (option_and_then (λ w. option_map (λ rest. adds.0 +ℤ rest) (offset_at structs w r.steps))) p.after
            ∙ ap (option_map (λ rest. adds.0 +ℤ rest)) r.shifted
            ∙ ap Some (sym adds.4);
        typed = ap (option_and_then (λ w. type_at structs w (path_of form))) after ∙ r.typed;
        count = r.count;
        sized = r.sized;
      }

  -- ---- paths once more

  -- the numbers of a path's subscripts are determined
  pub one_path : (path : List PathStep) (a b : List Step) → PathMeans defs env path a → PathMeans defs env path b → a ≡ b
  one_path [] [] [] p q = refl
  one_path (Field x ∷ path) (Dot y ∷ a) (Dot w ∷ b) p q =
      let same : y ≡ w = sym p.0 ∙ q.0 in
      ap₂ (λ n ns. n ∷ ns) (ap Dot same) (one_path path a b p.1 q.1)
  one_path (Subscript i ∷ path) (At y ∷ a) (At w ∷ b) p q =
      let numbers : Number y ≡ Number w = one_value defs p.0 (Number w) q.0 in
      let same : y ≡ w = cc in
      ap₂ (λ n ns. n ∷ ns) (ap At same) (one_path path a b p.1 q.1)
  one_path (Field x ∷ path) (Dot y ∷ a) [] p q = absurd q
  one_path (Field x ∷ path) (Dot y ∷ a) (At w ∷ b) p q = absurd q
  one_path (Field x ∷ path) (At y ∷ a) b p q = absurd p
  one_path (Field x ∷ path) [] b p q = absurd p
  one_path (Subscript i ∷ path) (At y ∷ a) [] p q = absurd q
  one_path (Subscript i ∷ path) (At y ∷ a) (Dot w ∷ b) p q = absurd q
  one_path (Subscript i ∷ path) (Dot y ∷ a) b p q = absurd p
  one_path (Subscript i ∷ path) [] b p q = absurd p
  one_path [] [] (w ∷ b) p q = absurd q
  one_path [] (y ∷ a) b p q = absurd p

  -- one path behind another
  pub means_on : (p q : List PathStep) (a b : List Step) → PathMeans defs env p a → PathMeans defs env q b → PathMeans defs env (p ++ q) (a ++ b)
  means_on [] q [] b m k = k
  means_on (Field x ∷ p) q (Dot y ∷ a) b m k = (m.0, means_on p q a b m.1 k)
  means_on (Subscript i ∷ p) q (At y ∷ a) b m k = (m.0, means_on p q a b m.1 k)
  means_on [] q (y ∷ a) b m k = absurd m
  means_on (Field x ∷ p) q [] b m k = absurd m
  means_on (Field x ∷ p) q (At y ∷ a) b m k = absurd m
  means_on (Subscript i ∷ p) q [] b m k = absurd m
  means_on (Subscript i ∷ p) q (Dot y ∷ a) b m k = absurd m
