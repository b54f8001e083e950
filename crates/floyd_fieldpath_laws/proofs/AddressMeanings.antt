-- The address at a path means the pointer, moved by the offset of the path.
use Rattle.std.proofs.Common.{◌≡◌, ℕ, ◌<◌, ◌^◌, Bool, true, false, ℤ, pos, ◌+ℤ◌, ◌*ℤ◌, List, [], ◌∷◌, map, Option, Some, None, Result, Ok, Err, is_some, refl, sym, ◌∙◌, ap, ap₂, subst, arith, All}
use Rattle.std.specs.Prelude.{if◌then◌else◌, option_map, option_and_then}
use Rattle.std.proofs.lemmas.Int.{ints}
use Rattle.std.proofs.lemmas.List.Elements.{All-head, All-tail}
use Rattle.floyd_text.specs.declared.refusal.No.{No}
use Rattle.floyd_int.specs.declared.kinds.Value.TheVariants.{Vptr}
use Rattle.floyd_ctypes.specs.declared.field.Field.{Field}
use Rattle.floyd_ctypes.specs.Structs.{Structs, field_of}
use Rattle.floyd_tree_sorts.specs.declared.shape.Shape.{Shape, more_of-Shape, end_of-Shape}
use Rattle.floyd_tree_sorts.specs.declared.shape.Shape as s
use Rattle.floyd_tree_sorts.specs.declared.sorts.Sort.{Sort, Z, Val as ValSort}
use Rattle.floyd_tree.specs.declared.paths.PathStep.{PathStep}
use Rattle.floyd_tree.specs.declared.paths.PathStep.TheVariants.{Field as FieldStep, Subscript}
use Rattle.floyd_tree.specs.Plain.{Plain, plains}
use Rattle.floyd_tree.specs.Types.{SizedType}
use Rattle.floyd_tree.specs.WellSorted.{sort_of}
use Rattle.floyd_tree_values.specs.BuiltIns.{Env}
use Rattle.floyd_tree_values.specs.Data.{Datum, Number, Val}
use Rattle.floyd_tree_values.specs.Means.{Defs, Means, AllMean, none, more}
use Rattle.floyd_tree_values.specs.Values.{ptr_add}
use Rattle.floyd_tree_values.proofs.OneValue.{no_data, split}
use Rattle.floyd_assert_cells.specs.Types.{Sized, Step, Dot, At, dot_offset, item_type, offset_at, size, size_by, sized, sizes_of, step_offset}
use Rattle.floyd_assert_cells.specs.Types as n
use Rattle.floyd_assert_cells.proofs.FormLaws.{mapped, chained}
use Rattle.floyd_assert_meaning.specs.Parts.{PathMeans}
use Rattle.floyd_fieldpath.specs.Addresses.{address, number_or_zero, on_type, or_zero, path_sum, size_term, step_sum, step_term, with_term}
use Rattle.floyd_fieldpath.specs.Nested.{literal, sized_type, type_after, type_at}
use Rattle.floyd_fieldpath.specs.Sums.{moved, times}
use Rattle.floyd_fieldpath.specs.Written.{on_ok}
use Rattle.floyd_fieldpath_laws.specs.Conditions.{Answers, HasSizes, IsNumber, IsPath, IsStep}
use Rattle.floyd_fieldpath_laws.specs.Senses.{Sense}
use Rattle.floyd_fieldpath_laws.proofs.Meanings.{literal_means, moved_means, on_ok_is, plus_means, times_means}
use Rattle.floyd_fieldpath_laws.proofs.SortedAddresses.{more_sort, size_sort, step_sort, sum_sort, IsSum}
use Rattle.floyd_fieldpath_laws.proofs.TypeSorts.{is_element, is_field, sizes_after, step_some}

-- what is answered is of the sort
pub answered : (s : Sort) (r : Result Plain No) (t : Plain) → Answers s r → r ≡ Ok t → sort_of t ≡ Some s
answered s (Ok u) t h e = let same : u ≡ t = cc in ap sort_of (sym same) ∙ h
answered s (Err refusal) t h e = absurd cc

module _ (defs : Defs) (env : Env) where
  -- a type with the numbers that its sizes are
  pub record TypeMeans (t : SizedType) (T : Sized) : Type 0 where
    pub shape : T.shape ≡ t.shape
    pub sizes : AllMean defs env (plains t.sizes) (map Number T.sizes)

  abbrev pub StepMeans : PathStep → Step → Type 0
  StepMeans (FieldStep x) (Dot y) = x ≡ y
  StepMeans (Subscript t) (At i) = Means defs env t (Number i)
  StepMeans step s = ⊥

  -- the numbers of a list of sizes
  pub first_size : (t : Plain) (ts : List Plain) (zs : List ℤ) → AllMean defs env (plains (t ∷ ts)) (map Number zs) → (z : ℤ) × (rest : List ℤ) × (zs ≡ z ∷ rest) × Means defs env t (Number z) × AllMean defs env (plains ts) (map Number rest)
  first_size t ts [] m = let p = split m in absurd (no_items p.datum p.data' p.is)
    where
      no_items : (d : Datum) (ds : List Datum) → [] ≡ d ∷ ds → ⊥
      no_items d ds e = cc
  first_size t ts (z ∷ zs) m =
      let p = split m in
      let first : p.datum ≡ Number z = (let q = p.is in cc) in
      let rest : p.data' ≡ map Number zs = (let q = p.is in cc) in
      (z, zs, refl, subst (Means defs env t) first p.first, subst (AllMean defs env (plains ts)) rest p.rest)

  pub literals_mean : (zs : List ℤ) → AllMean defs env (plains (map literal zs)) (map Number zs)
  literals_mean [] = none
  literals_mean (z ∷ zs) = more (literal_means defs env z) (literals_mean zs)

  -- ---- sizes

  number_means : (o : Option ℤ) (z : ℤ) → o ≡ Some z → Means defs env (number_or_zero o) (Number z)
  number_means (Some y) z e = let same : y ≡ z = cc in subst (λ x. Means defs env (literal y) (Number x)) same (literal_means defs env y)
  number_means None z e = absurd cc

  answer : (o : Option ℤ) (z : ℤ) (c : Plain) → o ≡ Some z → ◌≡◌ {A = Result Plain No} (Ok (number_or_zero o)) (Ok c) → Means defs env c (Number z)
  answer o z c e f = let same : number_or_zero o ≡ c = cc in subst (λ x. Means defs env x (Number z)) same (number_means o z e)

  pub size_means : (shape : Shape) (sizes : List Plain) (zs : List ℤ) (z : ℤ) (c : Plain) → All IsNumber sizes → AllMean defs env (plains sizes) (map Number zs) → size_by defs.structs shape zs ≡ Some z → size_term defs.structs shape sizes ≡ Ok c → Means defs env c (Number z)
  size_means (s.Array' p (more_of-Shape element end_of-Shape)) (t ∷ sizes) zs z c w m e f =
      let k = first_size t sizes zs m in
      let g = mapped (λ bytes. bytes *ℤ k.0) (size_by defs.structs element k.1) z (ap (size_by defs.structs (s.Array' p (more_of-Shape element end_of-Shape))) (sym k.2) ∙ e) in
      let q = on_ok_is (size_term defs.structs element sizes) (λ bytes. times bytes t) c f in
      let rest = All-tail IsNumber t sizes w in
      subst (λ x. Means defs env c (Number x)) g.2
      (times_means defs env q.0 t c g.0 k.0 (answered Z (size_term defs.structs element sizes) q.0 (size_sort defs.structs element sizes rest) q.1) (All-head IsNumber t sizes w)
      (size_means element sizes k.1 g.0 q.0 rest k.4 g.1 q.1) k.3 q.2)
  size_means (s.Array' p (more_of-Shape element end_of-Shape)) [] [] z c w m e f = absurd cc
  size_means (s.Array' p (more_of-Shape element end_of-Shape)) [] (y ∷ zs) z c w m e f = absurd (no_size m)
    where
      no_size : AllMean defs env (plains []) (map Number (y ∷ zs)) → ⊥
      no_size k = let q = no_data k in cc
  size_means s.Void sizes zs z c w m e f = absurd cc
  size_means (s.Int kind) sizes zs z c w m e f = answer (size_by defs.structs (s.Int kind) []) z c e f
  size_means (s.Pointer' p to) sizes zs z c w m e f = answer (size_by defs.structs (s.Pointer' p to) []) z c e f
  size_means (s.Struct tag) sizes zs z c w m e f = answer (size_by defs.structs (s.Struct tag) []) z c e f
  size_means (s.Function' q ps p r) sizes zs z c w m e f = absurd cc

  -- ---- a step

  after_dot : (structs : Structs) (tag x : List ℕ) (u : SizedType) (f : Field) → u ≡ sized_type f.ty → field_of structs tag x ≡ Some f → option_map (λ g. sized g.ty) (field_of structs tag x) ≡ Some (sized f.ty)
  after_dot structs tag x u f e g = ap (option_map (λ g. sized g.ty)) g

  pub after_means : (t u : SizedType) (T : Sized) (step : PathStep) (i : Step) → TypeMeans t T → StepMeans step i → type_after defs.structs t step ≡ Some u → (U : Sized) × (n.type_after defs.structs T i ≡ Some U) × TypeMeans u U
  after_means t u T (FieldStep x) (Dot y) m p e =
      let f = is_field defs.structs t.shape x u e in
      let shape : T.shape ≡ s.Struct f.tag = m.shape ∙ f.shape_is in
      let here : TypeMeans (sized_type f.field.ty) (sized f.field.ty) = record { shape = refl; sizes = literals_mean (sizes_of f.field.ty) } in (
        sized f.field.ty,
        ap₂ (n.after_dot defs.structs) shape (sym p) ∙ after_dot defs.structs f.tag x u f.field f.type f.found,
        subst (λ z. TypeMeans z (sized f.field.ty)) (sym f.type) here,
      )
  after_means t u T (Subscript i) (At place) m p e =
      let k = is_element t.shape t.sizes u e in
      let sizes : AllMean defs env (plains (k.count ∷ u.sizes)) (map Number T.sizes) = subst (λ ts. AllMean defs env (plains ts) (map Number T.sizes)) k.sizes_are m.sizes in
      let q = first_size k.count u.sizes T.sizes sizes in (
        record { shape = u.shape; sizes = q.1 },
        ap₂ item_type (m.shape ∙ k.shape_is) q.2,
        record { shape = refl; sizes = q.4 },
      )
  after_means t u T (FieldStep x) (At place) m p e = absurd p
  after_means t u T (Subscript i) (Dot y) m p e = absurd p

  step_means : (t u : SizedType) (T : Sized) (step : PathStep) (i : Step) (z : ℤ) (c : Plain) → TypeMeans t T → HasSizes u → IsStep step → StepMeans step i → type_after defs.structs t step ≡ Some u → step_offset defs.structs T i ≡ Some z → step_term defs.structs t u step ≡ Ok c → Means defs env c (Number z)
  step_means t u T (FieldStep x) (Dot y) z c m w k p e f g =
      answer (dot_offset defs.structs t.shape x) z c (ap₂ (dot_offset defs.structs) (sym m.shape) p ∙ f) g
  step_means t u T (Subscript i) (At place) z c m w k p e f g =
      let a = after_means t u T (Subscript i) (At place) m p e in
      let b = chained (λ v. option_map (λ bytes. bytes *ℤ place) (size defs.structs v)) (item_type T.shape T.sizes) z f in
      let same : Some b.0 ≡ Some a.0 = sym b.1 ∙ a.1 in
      let type : b.0 ≡ a.0 = cc in
      let d = mapped (λ bytes. bytes *ℤ place) (size defs.structs b.0) z b.2 in
      let q = on_ok_is (size_term defs.structs u.shape u.sizes) (λ bytes. times bytes i) c g in
      let bytes : size_by defs.structs u.shape a.0.sizes ≡ Some d.0 = ap (λ x. size_by defs.structs x a.0.sizes) (sym a.2.shape) ∙ ap (size defs.structs) (sym type) ∙ d.1 in
      subst (λ x. Means defs env c (Number x)) d.2
      (times_means defs env q.0 i c d.0 place (answered Z (size_term defs.structs u.shape u.sizes) q.0 (size_sort defs.structs u.shape u.sizes w.numbers) q.1) k
      (size_means u.shape u.sizes a.0.sizes d.0 q.0 w.numbers a.2.sizes bytes q.1) p q.2)
  step_means t u T (FieldStep x) (At place) z c m w k p e f g = absurd p
  step_means t u T (Subscript i) (Dot y) z c m w k p e f g = absurd p

  -- ---- sums

  abbrev SumMeans : Option Plain → ℤ → Type 0
  SumMeans None x = x ≡ pos 0
  SumMeans (Some sum) x = Means defs env sum (Number x)

  with_means : (sum : Option Plain) (n c : Plain) (x y : ℤ) → IsSum sum → IsNumber n → SumMeans sum x → Means defs env n (Number y) → with_term sum n ≡ Ok c → Means defs env c (Number (x +ℤ y))
  with_means None n c x y w k m p e =
      let same : n ≡ c = cc in
      let number : y ≡ x +ℤ y = (let q = m in rw q (omega (arith, ints))) in
      subst (λ t. Means defs env t (Number (x +ℤ y))) same (subst (λ z. Means defs env n (Number z)) number p)
  with_means (Some sum) n c x y w k m p e = plus_means defs env sum n c x y w k m p e

  end_means : (sum : Option Plain) (c : Plain) (x : ℤ) → SumMeans sum x → or_zero sum ≡ Ok c → Means defs env c (Number x)
  end_means None c x m e = let same : literal (pos 0) ≡ c = cc in subst (λ t. Means defs env t (Number x)) same (subst (λ z. Means defs env (literal (pos 0)) (Number z)) (sym m) (literal_means defs env (pos 0)))
  end_means (Some sum) c x m e = let same : sum ≡ c = cc in subst (λ t. Means defs env t (Number x)) same m

  no_offset : (b : Bool) (z : ℤ) → (if b then Some (pos 0) else None) ≡ Some z → pos 0 ≡ z
  no_offset true z e = cc
  no_offset false z e = absurd cc

  sum_step : (t u : SizedType) (T : Sized) (step : PathStep) (i : Step) (path : List PathStep) (steps : List Step) (sum : Option Plain) (x z : ℤ) (c : Plain) →
      TypeMeans t T → HasSizes t → IsStep step → StepMeans step i → type_at defs.structs t (step ∷ path) ≡ Some u → IsSum sum → SumMeans sum x →
      offset_at defs.structs T (i ∷ steps) ≡ Some z → path_sum defs.structs t (step ∷ path) sum ≡ Ok c →
      ((after : SizedType) (U : Sized) (more : Plain) (y rest : ℤ) → TypeMeans after U → HasSizes after → type_at defs.structs after path ≡ Some u → IsNumber more → Means defs env more (Number y) →
      offset_at defs.structs U steps ≡ Some rest → path_sum defs.structs after path (Some more) ≡ Ok c → Means defs env c (Number (y +ℤ rest))) →
      Means defs env c (Number (x +ℤ z))
  sum_step t u T step i path steps sum x z c m w p k e l before f g further =
      let structs = defs.structs in
      let a = step_some structs path (type_after structs t step) u e in
      let b = after_means t a.0 T step i m k a.1 in
      let there = sizes_after structs t a.0 step w a.1 in
      let o = chained (λ o. option_and_then (λ v. option_map (λ rest. o +ℤ rest) (offset_at structs v steps)) (n.type_after structs T i)) (step_offset structs T i) z f in
      let v = chained (λ v. option_map (λ rest. o.0 +ℤ rest) (offset_at structs v steps)) (n.type_after structs T i) z o.2 in
      let r = mapped (λ rest. o.0 +ℤ rest) (offset_at structs v.0 steps) z v.2 in
      let types : Some v.0 ≡ Some b.0 = sym v.1 ∙ b.1 in
      let type : v.0 ≡ b.0 = cc in
      let here : on_ok (step_sum structs t a.0 step sum) (λ more. path_sum structs a.0 path (Some more)) ≡ Ok c =
      ap (λ q. on_type q (λ after. on_ok (step_sum structs t after step sum) (λ more. path_sum structs after path (Some more)))) (sym a.1) ∙ g in
      let q = on_ok_is (step_sum structs t a.0 step sum) (λ more. path_sum structs a.0 path (Some more)) c here in
      let d = on_ok_is (step_term structs t a.0 step) (with_term sum) q.0 q.1 in
      let number = answered Z (step_term structs t a.0 step) d.0 (step_sort structs t a.0 step there p) d.1 in
      let means = step_means t a.0 T step i o.0 d.0 m there p k a.1 o.1 d.1 in
      let more_number = answered Z (with_term sum d.0) q.0 (more_sort sum d.0 l number) d.2 in
      let more_means = with_means sum d.0 q.0 x o.0 l number before means d.2 in
      let total : (x +ℤ o.0) +ℤ r.0 ≡ x +ℤ z = omega (arith, ints, r.2) in
      subst (λ y. Means defs env c (Number y)) total
      (further a.0 b.0 q.0 (x +ℤ o.0) r.0 b.2 there a.2 more_number more_means (ap (λ y. offset_at structs y steps) (sym type) ∙ r.1) q.2)

  pub sum_means : (t u : SizedType) (T : Sized) (path : List PathStep) (steps : List Step) (sum : Option Plain) (x z : ℤ) (c : Plain) →
      TypeMeans t T → HasSizes t → IsPath path → PathMeans defs env path steps → type_at defs.structs t path ≡ Some u → IsSum sum → SumMeans sum x →
      offset_at defs.structs T steps ≡ Some z → path_sum defs.structs t path sum ≡ Ok c → Means defs env c (Number (x +ℤ z))
  sum_means t u T [] [] sum x z c m w p q e k l f g =
      let nought = no_offset (is_some (size defs.structs T)) z f in
      let same : x ≡ x +ℤ z = omega (arith, ints, nought) in
      subst (λ y. Means defs env c (Number y)) same (end_means sum c x l g)
  sum_means t u T (FieldStep y ∷ path) (Dot i ∷ steps) sum x z c m w p q e k l f g =
      sum_step t u T (FieldStep y) (Dot i) path steps sum x z c m w tt q.0 e k l f g
      (λ after U more v rest a b d j o r h. sum_means after u U path steps (Some more) v rest c a b (All-tail IsStep (FieldStep y) path p) q.1 d j o r h)
  sum_means t u T (Subscript y ∷ path) (At i ∷ steps) sum x z c m w p q e k l f g =
      sum_step t u T (Subscript y) (At i) path steps sum x z c m w (All-head IsStep (Subscript y) path p) q.0 e k l f g
      (λ after U more v rest a b d j o r h. sum_means after u U path steps (Some more) v rest c a b (All-tail IsStep (Subscript y) path p) q.1 d j o r h)
  sum_means t u T path steps sum x z c m w p q e k l f g = absurd q

  pub address_means : (t : SizedType) (path : List PathStep) (root a : Plain) (m : Sense defs env t path) (block offset : ℕ) (z : ℤ) →
      sort_of root ≡ Some ValSort → Means defs env root (Val (Vptr block offset)) → offset < 2 ^ 64 →
      offset_at defs.structs m.type m.steps ≡ Some z → address defs.structs t path root ≡ Ok a →
      Means defs env a (Val (ptr_add (Vptr block offset) z))
  address_means t path root a m block offset z e f small o g = by (type_at defs.structs t path) refl g
    where
      by : (v : Option SizedType) → type_at defs.structs t path ≡ v → on_type v (λ nested. on_ok (path_sum defs.structs t path None) (moved root)) ≡ Ok a → Means defs env a (Val (ptr_add (Vptr block offset) z))
      by (Some u) k h =
          let q = on_ok_is (path_sum defs.structs t path None) (moved root) a h in
          let number = answered Z (path_sum defs.structs t path None) q.0 (sum_sort defs.structs t u path None m.has_sizes m.is_path k tt) q.1 in
          let same : pos 0 +ℤ z ≡ z = omega (arith, ints) in
          let sum = subst (λ y. Means defs env q.0 (Number y)) same
          (sum_means t u m.type path m.steps None (pos 0) z q.0 (record { shape = m.shape; sizes = m.sizes }) m.has_sizes m.is_path m.of_path k tt refl o q.1) in
          moved_means defs env root q.0 a block offset z e number f small sum q.2
      by None k h = absurd cc
