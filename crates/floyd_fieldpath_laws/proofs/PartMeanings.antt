-- What a part of memory gives at a path.
use Rattle.std.proofs.Common.{◌≡◌, ℕ, true, false, ℤ, List, [], ◌∷◌, Option, Some, Ok, sym, ◌∙◌, ap, subst}
use Rattle.std.specs.Option.{option_map_or}
use Rattle.std.proofs.lemmas.Bool.{and_parts}
use Rattle.std.proofs.lemmas.List.Elements.{All-head, All-tail}
use Rattle.floyd_clight_heap.specs.Heaplet.{Heaplet}
use Rattle.floyd_tree_sorts.specs.declared.sorts.Sort.{Sort}
use Rattle.floyd_tree.specs.declared.paths.PathStep.{PathStep}
use Rattle.floyd_tree.specs.declared.paths.PathStep.TheVariants.{Field as FieldStep, Subscript}
use Rattle.floyd_tree.specs.Plain.{Plain}
use Rattle.floyd_tree.specs.Types.{SizedType}
use Rattle.floyd_tree.specs.WellSorted.{sort_of}
use Rattle.floyd_tree_values.specs.BuiltIns.{Env}
use Rattle.floyd_tree_values.specs.Data.{Datum}
use Rattle.floyd_tree_values.specs.Defaults.{undefined, value_sort}
use Rattle.floyd_tree_values.specs.Means.{Defs, Means}
use Rattle.floyd_assert_cells.specs.Cells.{Cells}
use Rattle.floyd_assert_cells.specs.Forms.{Form, form_of}
use Rattle.floyd_assert_cells.specs.Items.{Found, item_in, on_step, step_in, with_at}
use Rattle.floyd_assert_cells.specs.Items as it
use Rattle.floyd_assert_cells.specs.Types.{Sized, Step, Dot, At, in_range, is_legal}
use Rattle.floyd_assert_cells.specs.Types as n
use Rattle.floyd_assert_cells.proofs.ObjectLaws.{opened, paths_focused}
use Rattle.floyd_assert_meaning.specs.Parts.{PathMeans}
use Rattle.floyd_fieldpath.specs.Addresses.{on_type}
use Rattle.floyd_fieldpath.specs.Nested.{type_after, type_at}
use Rattle.floyd_fieldpath.specs.Projections.{item, item_at}
use Rattle.floyd_fieldpath.specs.Updates.{updated_at, with_item}
use Rattle.floyd_fieldpath.specs.Written.{on_ok}
use Rattle.floyd_fieldpath_laws.specs.Conditions.{IsPath, IsStep}
use Rattle.floyd_fieldpath_laws.specs.Senses.{IsTaken, Sense}
use Rattle.floyd_fieldpath_laws.proofs.AddressMeanings.{StepMeans, answered}
use Rattle.floyd_fieldpath_laws.proofs.Blanks.{IsShaped, cells_shaped}
use Rattle.floyd_fieldpath_laws.proofs.Meanings.{on_ok_is}
use Rattle.floyd_fieldpath_laws.proofs.PathMeanings.{Held, next_held, stepped}
use Rattle.floyd_fieldpath_laws.proofs.SortedUpdates.{updated_sorts}
use Rattle.floyd_fieldpath_laws.proofs.TypeSorts.{step_some}

module _ (defs : Defs) (env : Env) where
  -- a legal path leads on
  legal_after : (o : Option Sized) (U : Sized) (steps : List Step) → o ≡ Some U → option_map_or (λ u. is_legal defs.structs u steps) o false ≡ true → is_legal defs.structs U steps ≡ true
  legal_after o U steps e l = ap (λ p. option_map_or (λ u. is_legal defs.structs u steps) p false) (sym e) ∙ l

  -- ---- items

  item_further : (t u : SizedType) (T : Sized) (sort : Sort) (f : Form) (v w : Plain) (d : Datum) (step : PathStep) (i : Step) (path : List PathStep) (steps : List Step) →
      Held defs env t T sort f v d → IsStep step → StepMeans defs env step i → is_legal defs.structs T (i ∷ steps) ≡ true → type_at defs.structs t (step ∷ path) ≡ Some u → item_at defs.structs t (step ∷ path) v ≡ Ok w →
      ((after : SizedType) (U : Sized) (r : Sort) (g : Form) (x : Plain) (y : Datum) → Held defs env after U r g x y → is_legal defs.structs U steps ≡ true → type_at defs.structs after path ≡ Some u → item_at defs.structs after path x ≡ Ok w → Means defs env w (it.item_at steps g y)) →
      Means defs env w (it.item_at (i ∷ steps) f d)
  item_further t u T sort f v w d step i path steps h z m l e c further =
      let structs = defs.structs in
      let legal = and_parts (in_range T i) (option_map_or (λ y. is_legal structs y steps) (n.type_after structs T i) false) l in
      let a = step_some structs path (type_after structs t step) u e in
      let p = stepped defs env t T sort f v d step i a.0 h z m legal.0 a.1 in
      let here : on_ok (item structs t a.0 step v) (item_at structs a.0 path) ≡ Ok w = ap (λ o. on_type o (λ after. on_ok (item structs t after step v) (item_at structs after path))) (sym a.1) ∙ c in
      let q = on_ok_is (item structs t a.0 step v) (item_at structs a.0 path) w here in
      subst (λ o. Means defs env w (on_step o (λ g. it.item_at steps g (item_in f i d)) undefined)) (sym p.there)
      (further a.0 p.type p.item_sort p.found.form q.0 (item_in f i d) (next_held defs env t T sort f v q.0 d step i a.0 h z a.1 p q.1) (legal_after (n.type_after structs T i) p.type steps p.after legal.1) a.2 q.2)

  pub items_mean : (t u : SizedType) (T : Sized) (sort : Sort) (f : Form) (v w : Plain) (d : Datum) (path : List PathStep) (steps : List Step) → Held defs env t T sort f v d → IsPath path → PathMeans defs env path steps →
      is_legal defs.structs T steps ≡ true → type_at defs.structs t path ≡ Some u → item_at defs.structs t path v ≡ Ok w → Means defs env w (it.item_at steps f d)
  items_mean t u T sort f v w d [] [] h z m l e c = let same : v ≡ w = cc in subst (λ x. Means defs env x d) same h.value
  items_mean t u T sort f v w d (FieldStep x ∷ path) (Dot y ∷ steps) h z m l e c =
      item_further t u T sort f v w d (FieldStep x) (Dot y) path steps h tt m.0 l e c
      (λ after U r g x' y' held legal k j. items_mean after u U r g x' w y' path steps held (All-tail IsStep (FieldStep x) path z) m.1 legal k j)
  items_mean t u T sort f v w d (Subscript x ∷ path) (At y ∷ steps) h z m l e c =
      item_further t u T sort f v w d (Subscript x) (At y) path steps h (All-head IsStep (Subscript x) path z) m.0 l e c
      (λ after U r g x' y' held legal k j. items_mean after u U r g x' w y' path steps held (All-tail IsStep (Subscript x) path z) m.1 legal k j)
  items_mean t u T sort f v w d path steps h z m l e c = absurd m

  -- ---- updates

  module _ (r : Sort) (new : Plain) (d' : Datum) (sorted : sort_of new ≡ Some r) (value : Means defs env new d') where
    one_updated : (t u : SizedType) (T : Sized) (sort : Sort) (f : Form) (v w : Plain) (d : Datum) (step : PathStep) (i : Step) →
        Held defs env t T sort f v d → IsStep step → StepMeans defs env step i → is_legal defs.structs T (i ∷ []) ≡ true → type_at defs.structs t (step ∷ []) ≡ Some u → value_sort defs.structs u.shape ≡ Some r →
        updated_at defs.structs t (step ∷ []) v new ≡ Ok w → Means defs env w (with_at (i ∷ []) f d d')
    one_updated t u T sort f v w d step i h z m l e s c =
        let structs = defs.structs in
        let legal = and_parts (in_range T i) (option_map_or (λ y. is_legal structs y []) (n.type_after structs T i) false) l in
        let a = step_some structs [] (type_after structs t step) u e in
        let p = stepped defs env t T sort f v d step i a.0 h z m legal.0 a.1 in
        let nested : Some a.0 ≡ Some u = a.2 in
        let same : a.0 ≡ u = cc in
        let sorts : Some r ≡ Some p.item_sort = sym s ∙ ap (λ (y : SizedType). value_sort structs y.shape) (sym same) ∙ p.has in
        let here : with_item structs t.shape step v new ≡ Ok w = ap (λ o. on_type o (λ after. with_item structs t.shape step v new)) (sym a.1) ∙ c in
        subst (λ o. Means defs env w (it.with_item f i d (on_step o (λ g. with_at [] g (item_in f i d) d') undefined))) (sym p.there) (p.gives_update new w d' (sorted ∙ sorts) value here)

    updated_further : (t u : SizedType) (T : Sized) (sort : Sort) (f : Form) (v w : Plain) (d : Datum) (step more : PathStep) (i : Step) (path : List PathStep) (steps : List Step) →
        Held defs env t T sort f v d → IsPath (step ∷ more ∷ path) → StepMeans defs env step i → is_legal defs.structs T (i ∷ steps) ≡ true → type_at defs.structs t (step ∷ more ∷ path) ≡ Some u → value_sort defs.structs u.shape ≡ Some r →
        updated_at defs.structs t (step ∷ more ∷ path) v new ≡ Ok w →
        ((after : SizedType) (U : Sized) (q : Sort) (g : Form) (x o : Plain) (y : Datum) → Held defs env after U q g x y → is_legal defs.structs U steps ≡ true → type_at defs.structs after (more ∷ path) ≡ Some u →
        updated_at defs.structs after (more ∷ path) x new ≡ Ok o → Means defs env o (with_at steps g y d')) →
        Means defs env w (with_at (i ∷ steps) f d d')
    updated_further t u T sort f v w d step more i path steps h z m l e s c further =
        let structs = defs.structs in
        let legal = and_parts (in_range T i) (option_map_or (λ y. is_legal structs y steps) (n.type_after structs T i) false) l in
        let a = step_some structs (more ∷ path) (type_after structs t step) u e in
        let first = All-head IsStep step (more ∷ path) z in
        let rest = All-tail IsStep step (more ∷ path) z in
        let p = stepped defs env t T sort f v d step i a.0 h first m legal.0 a.1 in
        let here : on_ok (item structs t a.0 step v) (λ y. on_ok (updated_at structs a.0 (more ∷ path) y new) (λ x. with_item structs t.shape step v x)) ≡ Ok w =
        ap (λ o. on_type o (λ after. on_ok (item structs t after step v) (λ y. on_ok (updated_at structs after (more ∷ path) y new) (λ x. with_item structs t.shape step v x)))) (sym a.1) ∙ c in
        let q = on_ok_is (item structs t a.0 step v) (λ y. on_ok (updated_at structs a.0 (more ∷ path) y new) (λ x. with_item structs t.shape step v x)) w here in
        let o = on_ok_is (updated_at structs a.0 (more ∷ path) q.0 new) (λ x. with_item structs t.shape step v x) w q.2 in
        let held = next_held defs env t T sort f v q.0 d step i a.0 h first a.1 p q.1 in
        let inner = further a.0 p.type p.item_sort p.found.form q.0 o.0 (item_in f i d) held (legal_after (n.type_after structs T i) p.type steps p.after legal.1) a.2 o.1 in
        let inner_sort = answered p.item_sort (updated_at structs a.0 (more ∷ path) q.0 new) o.0 (updated_sorts structs a.0 u (more ∷ path) q.0 new p.item_sort r held.sizes rest a.2 held.has s held.sorted sorted) o.1 in
        subst (λ k. Means defs env w (it.with_item f i d (on_step k (λ g. with_at steps g (item_in f i d) d') undefined))) (sym p.there)
        (p.gives_update o.0 w (with_at steps p.found.form (item_in f i d) d') inner_sort inner o.2)

    pub updates_mean : (t u : SizedType) (T : Sized) (sort : Sort) (f : Form) (v w : Plain) (d : Datum) (path : List PathStep) (steps : List Step) → Held defs env t T sort f v d → IsPath path → PathMeans defs env path steps →
        is_legal defs.structs T steps ≡ true → type_at defs.structs t path ≡ Some u → value_sort defs.structs u.shape ≡ Some r → updated_at defs.structs t path v new ≡ Ok w → Means defs env w (with_at steps f d d')
    updates_mean t u T sort f v w d [] [] h z m l e s c = let same : new ≡ w = cc in subst (λ x. Means defs env x d') same value
    updates_mean t u T sort f v w d (FieldStep x ∷ []) (Dot y ∷ []) h z m l e s c = one_updated t u T sort f v w d (FieldStep x) (Dot y) h tt m.0 l e s c
    updates_mean t u T sort f v w d (Subscript x ∷ []) (At y ∷ []) h z m l e s c = one_updated t u T sort f v w d (Subscript x) (At y) h (All-head IsStep (Subscript x) [] z) m.0 l e s c
    updates_mean t u T sort f v w d (FieldStep x ∷ more ∷ path) (Dot y ∷ steps) h z m l e s c =
        updated_further t u T sort f v w d (FieldStep x) more (Dot y) path steps h z m.0 l e s c
        (λ after U q g x' o y' held legal k j. updates_mean after u U q g x' o y' (more ∷ path) steps held (All-tail IsStep (FieldStep x) (more ∷ path) z) m.1 legal k s j)
    updates_mean t u T sort f v w d (Subscript x ∷ more ∷ path) (At y ∷ steps) h z m l e s c =
        updated_further t u T sort f v w d (Subscript x) more (At y) path steps h z m.0 l e s c
        (λ after U q g x' o y' held legal k j. updates_mean after u U q g x' o y' (more ∷ path) steps held (All-tail IsStep (Subscript x) (more ∷ path) z) m.1 legal k s j)
    updates_mean t u T sort f v w d (FieldStep x ∷ []) (Dot y ∷ i ∷ steps) h z m l e s c = absurd m.1
    updates_mean t u T sort f v w d (Subscript x ∷ []) (At y ∷ i ∷ steps) h z m l e s c = absurd m.1
    updates_mean t u T sort f v w d path steps h z m l e s c = absurd m

  -- ---- the law

  pub part_has_items : (share : ℤ) (t u : SizedType) (path : List PathStep) (m : Sense defs env t path) (v : Plain) (sort : Sort) (f : Form) (d : Datum) (block offset : ℕ) (h : Heaplet) →
      type_at defs.structs t path ≡ Some u → value_sort defs.structs t.shape ≡ Some sort → sort_of v ≡ Some sort → Means defs env v d →
      form_of defs.structs m.type ≡ Some f → is_legal defs.structs m.type m.steps ≡ true → Cells defs.structs share m.type d block offset h →
      IsTaken defs env share t u path m f v d block offset h
  part_has_items share t u path m v sort f d block offset h e s sorted value g l cells =
      let o = opened defs.structs share m.type d block offset h cells in
      let forms : Some o.form ≡ Some f = sym o.of ∙ g in
      let form : o.form ≡ f = cc in
      let shaped : IsShaped f d = subst (λ y. IsShaped y d) form (cells_shaped o.less block o.form d offset h o.holds) in
      let held : Held defs env t m.type sort f v d = record { means = record { shape = m.shape; sizes = m.sizes }; sizes = m.has_sizes; has = s; form = g; shaped = shaped; sorted = sorted; value = value } in
      record {
        place = paths_focused defs.structs share m.type m.steps f d block offset h g l cells;
        means = record {
          item = λ w c. items_mean t u m.type sort f v w d path m.steps held m.is_path m.of_path l e (ap (λ k. on_type k (λ nested. item_at defs.structs t path v)) (sym e) ∙ c);
          updated = λ new w r y a b k c. updates_mean r new y b k t u m.type sort f v w d path m.steps held m.is_path m.of_path l e a (ap (λ p. on_type p (λ nested. updated_at defs.structs t path v new)) (sym e) ∙ c);
        };
      }
