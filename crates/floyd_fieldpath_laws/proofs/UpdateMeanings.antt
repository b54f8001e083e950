-- A value with another item at a path means its datum with the other item's datum there.
use Rattle.std.proofs.Common.{◌≡◌, ◌⊎◌, inl, inr, ℕ, Bool, true, false, pos, List, [], ◌∷◌, map, set, Option, Some, None, Ok, refl, sym, ◌∙◌, ap, subst, bytes_eq}
use Rattle.std.specs.Prelude.{if◌then◌else◌, find}
use Rattle.std.proofs.lemmas.List.{map-set}
use Rattle.floyd_ctypes.specs.declared.field.Field.{Field}
use Rattle.floyd_ctypes.specs.declared.layout.Layout.{Layout}
use Rattle.floyd_ctypes.specs.Layout.{after, offset_after}
use Rattle.floyd_ctypes.specs.Structs.{completes}
use Rattle.floyd_tree_sorts.specs.declared.heads.Head.TheVariants as h
use Rattle.floyd_tree_sorts.specs.declared.operators.Operator.{Operator}
use Rattle.floyd_tree_sorts.specs.declared.operators.Operator.TheVariants.{Pair as PairOf, Upd, Vint, Vints, Vlong, Vlongs}
use Rattle.floyd_tree_sorts.specs.declared.sorts.Sort.{Sort, Z, Val as ValSort}
use Rattle.floyd_tree_sorts.specs.Operators.{row}
use Rattle.floyd_tree_sorts.specs.Sorts.{list_sort, pair_sort}
use Rattle.floyd_tree_sorts.specs.Table.{by_row}
use Rattle.floyd_tree.specs.Plain.{Plain, At, head_of}
use Rattle.floyd_tree.specs.WellSorted.{sort_of}
use Rattle.floyd_tree_values.specs.BuiltIns.{Env, applied}
use Rattle.floyd_tree_values.specs.Data.{Datum, Data, Number, Seq, Pair, listed, seq, first_in, second_in, items_in}
use Rattle.floyd_tree_values.specs.Defaults.{fields_sort, type_sort}
use Rattle.floyd_tree_values.specs.Means.{Defs, Means, AllMean}
use Rattle.floyd_tree_values.proofs.OneValue.{applies}
use Rattle.floyd_assert_cells.specs.Forms.{Form, Fields, EndAt, FieldAt, fields_form, form_layout, struct_form, type_form}
use Rattle.floyd_assert_cells.specs.Items.{Found, field_in, first_part, other_part, with_field, with_first, with_others}
use Rattle.floyd_assert_cells.specs.Types.{sized, sizes_of}
use Rattle.floyd_assert_cells.proofs.DefaultCells.{fields_value, first_value as first_default, form_default, listed_data}
use Rattle.floyd_assert_cells.proofs.FormLaws.{shape_form_of}
use Rattle.floyd_fieldpath.specs.Nested.{sized_type}
use Rattle.floyd_fieldpath.specs.Projections.{first_of, is_default, is_ints, is_longs, kid_under, one, second_of}
use Rattle.floyd_fieldpath.specs.Sums.{two}
use Rattle.floyd_fieldpath.specs.Updates.{both, default_and, default_of_field, fields_default, first_value, is_int, is_long, list_with, numbers_with, other_values, others_written, pair, three, with_component, with_element}
use Rattle.floyd_fieldpath.specs.Written.{on_ok, written}
use Rattle.floyd_fieldpath.proofs.SortDepths.{pair_some}
use Rattle.floyd_fieldpath_laws.specs.Conditions.{IsNumber}
use Rattle.floyd_fieldpath_laws.proofs.AddressMeanings.{answered, literals_mean}
use Rattle.floyd_fieldpath_laws.proofs.Blanks.{HasFields, IsBlank, alone_of, blank_is, fields_blank_is, first_blank, forms_of, found_beyond, found_alone, has_fields, other_blank}
use Rattle.floyd_fieldpath_laws.proofs.ItemMeanings.{Behind, FieldsMean, KidMeans, as_int, as_long, behind, default_means, first_is, first_means, ints_mean, longs_mean, means_blank, one_datum, second_is, second_means}
use Rattle.floyd_fieldpath_laws.proofs.Meanings.{on_ok_is, one_means, three_mean, two_mean, written_is, written_means}
use Rattle.floyd_fieldpath_laws.proofs.SortedItems.{second_made}
use Rattle.floyd_fieldpath_laws.proofs.SortedUpdates.{Stands, component_updated, field_default_made, fields_default_made, first_value_made, others_made}
use Rattle.floyd_fieldpath_laws.proofs.TermSorts.{int_alone, int_kid, ints_kid, long_alone, long_kid, longs_kid, one_sort, pair_row, three_sort, two_sort, upd_row}
use Rattle.floyd_fieldpath_laws.proofs.Tests.{tested}
use Rattle.floyd_fieldpath_laws.proofs.TypeSorts.{field_sizes, same_sort_of, sorts}

module _ (defs : Defs) (env : Env) where
  -- ---- pairs and defaults

  pub paired : (x y w : Plain) (a b : Sort) (d e : Datum) → sort_of x ≡ Some a → sort_of y ≡ Some b → Means defs env x d → Means defs env y e → pair x y ≡ Ok w → Means defs env w (Pair d e)
  paired x y w a b d e f g m n p =
      written_means defs env (two PairOf x y) w (Pair d e) p (two_mean defs env PairOf (pair_sort a b) x y d e (two_sort PairOf (pair_sort a b) a b x y f g (pair_row a b)) m n)

  pub field_default_means : (k : Field) (r : Sort) (g : Form) (w : Plain) → type_sort (sorts defs.structs) k.ty ≡ Some r → type_form (struct_form (completes defs.structs) defs.structs) k.ty ≡ Some g → default_of_field defs.structs k ≡ Ok w → Means defs env w (form_default g)
  field_default_means k r g w e f c =
      default_means defs env (sized_type k.ty) (sized k.ty) r g w (field_sizes k.ty) (record { shape = refl; sizes = literals_mean defs env (sizes_of k.ty) })
      (same_sort_of (sorts defs.structs) k.ty ∙ e) (shape_form_of (struct_form (completes defs.structs) defs.structs) k.ty ∙ f) c

  pair_default : (d : Datum) (rest : Fields) (e : Datum) → HasFields rest → first_default d rest e ≡ Pair d e
  pair_default d (EndAt size) e h = absurd h
  pair_default d (FieldAt name at f rest) e h = refl

  pub fields_default_means : (laid : Layout) (fields : List Field) (forms : Fields) (sort : Sort) (w : Plain) → fields_form (struct_form (completes defs.structs) defs.structs) laid fields ≡ Some forms → fields_sort (sorts defs.structs) fields ≡ Some sort →
      fields_default defs.structs fields ≡ Ok w → Means defs env w (fields_value forms)
  fields_default_means laid [] forms sort w f e c = absurd cc
  fields_default_means laid (k ∷ []) forms sort w f e c =
      let p = alone_of (struct_form (completes defs.structs) defs.structs) laid k forms f in
      subst (λ y. Means defs env w (fields_value y)) (sym p.same) (field_default_means k sort p.form w e p.form_is c)
  fields_default_means laid (k ∷ l ∷ more) forms sort w f e c =
      let p = forms_of (struct_form (completes defs.structs) defs.structs) laid k (l ∷ more) forms f in
      let m = pair_some (type_sort (sorts defs.structs) k.ty) (fields_sort (sorts defs.structs) (l ∷ more)) sort e in
      let some = has_fields (struct_form (completes defs.structs) defs.structs) (after laid (form_layout p.form)) l more p.rest p.rest_is in
      let q = on_ok_is (fields_default defs.structs (l ∷ more)) (default_and defs.structs k) w c in
      let a = on_ok_is (default_of_field defs.structs k) (λ y. pair y q.0) w q.2 in
      let first_sort = answered m.0 (default_of_field defs.structs k) a.0 (field_default_made defs.structs k m.0 m.2) a.1 in
      let other_sort = answered m.1 (fields_default defs.structs (l ∷ more)) q.0 (fields_default_made defs.structs (l ∷ more) m.1 m.3) q.1 in
      subst (λ y. Means defs env w (fields_value y)) (sym p.same)
      (subst (Means defs env w) (sym (pair_default (form_default p.form) p.rest (fields_value p.rest) some))
      (paired a.0 q.0 w m.0 m.1 (form_default p.form) (fields_value p.rest) first_sort other_sort (field_default_means k m.0 p.form a.0 m.2 p.form_is a.1)
      (fields_default_means (after laid (form_layout p.form)) (l ∷ more) p.rest m.1 q.0 p.rest_is m.3 q.1) a.2))

  -- ---- fields

  -- a default of a blank datum, or a value with its datum
  abbrev pub Either : Sort → Plain → Datum → Type 0
  Either sort v d = ((is_default (head_of v) ≡ true) × IsBlank d) ⊎ ((is_default (head_of v) ≡ false) × (sort_of v ≡ Some sort) × Means defs env v d)

  stands : (sort : Sort) (v : Plain) (d : Datum) → Either sort v d → Stands sort v
  stands sort v d (inl e) = inl e.0
  stands sort v d (inr e) = inr e.1

  chosen_first : {A : Type 0} (b : Bool) (x y z : A) → b ≡ true → (if b then x else y) ≡ z → x ≡ z
  chosen_first b x y z e f = ap (λ t. if t then x else y) (sym e) ∙ f

  chosen_second : {A : Type 0} (b : Bool) (x y z : A) → b ≡ false → (if b then x else y) ≡ z → y ≡ z
  chosen_second b x y z e f = ap (λ t. if t then x else y) (sym e) ∙ f

  -- what stands for the first field's value and the others' means theirs
  module _ (laid : Layout) (k l : Field) (more : List Field) (forms : Fields) (sort : Sort) (v : Plain) (d : Datum) (b : Behind defs env laid k (l ∷ more) forms sort d) (some : HasFields b.f.rest) where
    first_value_means : (w : Plain) → Either (pair_sort b.first_sort b.other_sort) v d → first_value defs.structs k v ≡ Ok w → Means defs env w (first_in d)
    first_value_means w (inl e) c =
        let made = chosen_first (is_default (head_of v)) (default_of_field defs.structs k) (first_of v) (Ok w) e.0 c in
        let blank = first_blank b.f.rest d b.parted e.1 in
        let same : first_in d ≡ form_default b.f.form = sym (first_is b.f.rest d some) ∙ blank_is b.f.form (first_part b.f.rest d) b.solid b.shaped blank in
        subst (Means defs env w) (sym same) (field_default_means k b.first_sort b.f.form w b.first_has b.f.form_is made)
    first_value_means w (inr e) c =
        first_means defs env v w d b.first_sort b.other_sort e.1 e.2 (chosen_second (is_default (head_of v)) (default_of_field defs.structs k) (first_of v) (Ok w) e.0 c)

    others_mean : (w : Plain) → Either (pair_sort b.first_sort b.other_sort) v d → others_written defs.structs (l ∷ more) v ≡ Ok w → Means defs env w (second_in d)
    others_mean w (inl e) c =
        let made = chosen_first (is_default (head_of v)) (fields_default defs.structs (l ∷ more)) (second_of v) (Ok w) e.0 c in
        let blank = other_blank b.f.rest d b.parted e.1 in
        let same : second_in d ≡ fields_value b.f.rest = sym (second_is b.f.rest d some) ∙ fields_blank_is b.f.rest (other_part b.f.rest d) some b.others.solid b.others.shaped blank in
        subst (Means defs env w) (sym same) (fields_default_means (after laid (form_layout b.f.form)) (l ∷ more) b.f.rest b.other_sort w b.others.form b.others.sorted made)
    others_mean w (inr e) c =
        second_means defs env v w d b.first_sort b.other_sort e.1 e.2 (chosen_second (is_default (head_of v)) (fields_default defs.structs (l ∷ more)) (second_of v) (Ok w) e.0 c)

    others_stand : (w : Plain) → Either (pair_sort b.first_sort b.other_sort) v d → other_values v ≡ Ok w → Either b.other_sort w (other_part b.f.rest d)
    others_stand w (inl e) c =
        let made = chosen_first (is_default (head_of v)) (Ok v) (second_of v) (Ok w) e.0 c in
        let same : v ≡ w = cc in
        inl (ap (λ y. is_default (head_of y)) (sym same) ∙ e.0, other_blank b.f.rest d b.parted e.1)
    others_stand w (inr e) c =
        let made = chosen_second (is_default (head_of v)) (Ok v) (second_of v) (Ok w) e.0 c in
        let sorted = answered b.other_sort (second_of v) w (second_made v b.first_sort b.other_sort e.1) made in
        let means = subst (Means defs env w) (sym (second_is b.f.rest d some)) (second_means defs env v w d b.first_sort b.other_sort e.1 e.2 made) in
        by (is_default (head_of w)) refl sorted means
      where
        by : (t : Bool) → is_default (head_of w) ≡ t → sort_of w ≡ Some b.other_sort → Means defs env w (other_part b.f.rest d) → Either b.other_sort w (other_part b.f.rest d)
        by true p sorted means = inl (p, means_blank defs env w (other_part b.f.rest d) p means)
        by false p sorted means = inr (p, sorted, means)

  with_here : (x name : List ℕ) (at : ℕ) (f : Form) (rest : Fields) (d e : Datum) (b : Bool) → bytes_eq x name ≡ b → with_field (FieldAt name at f rest) x d e ≡ (if b then with_first rest d e else with_others rest d (with_field rest x (other_part rest d) e))
  with_here x name at f rest d e b p = ap (λ t. if t then with_first rest d e else with_others rest d (with_field rest x (other_part rest d) e)) p

  first_with : (rest : Fields) (d e : Datum) → HasFields rest → with_first rest d e ≡ Pair e (second_in d)
  first_with (EndAt size) d e h = absurd h
  first_with (FieldAt name at f rest) d e h = refl

  others_with : (rest : Fields) (d e : Datum) → HasFields rest → with_others rest d e ≡ Pair (first_in d) e
  others_with (EndAt size) d e h = absurd h
  others_with (FieldAt name at f rest) d e h = refl

  pub component_updated_means : (r : Sort) (g : Found) (f : Field) (x : List ℕ) (laid : Layout) (fields : List Field) (forms : Fields) (sort : Sort) (v new w : Plain) (d e : Datum) →
      type_sort (sorts defs.structs) f.ty ≡ Some r → find (λ k. bytes_eq x k.name) fields ≡ Some f → field_in forms x ≡ Some g →
      FieldsMean defs env laid fields forms sort d → Either sort v d → sort_of new ≡ Some r → Means defs env new e → with_component defs.structs fields x v new ≡ Ok w → Means defs env w (with_field forms x d e)
  component_updated_means r g f x laid [] forms sort v new w d e t p i m y s n c = absurd cc
  component_updated_means r g f x laid (k ∷ []) forms sort v new w d e t p i m y s n c =
      let q = alone_of (struct_form (completes defs.structs) defs.structs) laid k forms m.form in
      let at = offset_after laid (form_layout q.form) in
      let here = found_alone x k.name at q.size q.form g (ap (λ z. field_in z x) (sym q.same) ∙ i) in
      let value : e ≡ with_field forms x d e = ap (λ b. if b then e else d) (sym here) ∙ ap (λ z. with_field z x d e) (sym q.same) in
      let same : new ≡ w = cc in
      subst (λ z. Means defs env z (with_field forms x d e)) same (subst (Means defs env new) value n)
  component_updated_means r g f x laid (k ∷ l ∷ more) forms sort v new w d e t p i m y s n c =
      let b = behind defs env laid k l more forms sort d m in
      let at = offset_after laid (form_layout b.f.form) in
      let some = has_fields (struct_form (completes defs.structs) defs.structs) (after laid (form_layout b.f.form)) l more b.f.rest b.f.rest_is in
      let either : Either (pair_sort b.first_sort b.other_sort) v d = subst (λ z. Either z v d) (sym b.sort_is) y in
      subst (λ a. Means defs env w (with_field a x d e)) (sym b.f.same)
      (tested (Means defs env w (with_field (FieldAt k.name at b.f.form b.f.rest) x d e)) (bytes_eq x k.name) _ _ (Ok w) c
      (λ a j.
      let q = on_ok_is (others_written defs.structs (l ∷ more) v) (λ rest. pair new rest) w j in
      let same : k ≡ f = (let h = ap (λ z. if z then Some k else find (λ o. bytes_eq x o.name) (l ∷ more)) (sym a) ∙ p in cc) in
      let sorted : Some r ≡ Some b.first_sort = sym t ∙ ap (λ (z : Field). type_sort (sorts defs.structs) z.ty) (sym same) ∙ b.first_has in
      let rest_sort = answered b.other_sort (others_written defs.structs (l ∷ more) v) q.0 (others_made defs.structs (l ∷ more) v b.first_sort b.other_sort b.others.sorted (stands (pair_sort b.first_sort b.other_sort) v d either)) q.1 in
      subst (Means defs env w) (sym (with_here x k.name at b.f.form b.f.rest d e true a ∙ first_with b.f.rest d e some))
      (paired new q.0 w b.first_sort b.other_sort e (second_in d) (s ∙ sorted) rest_sort n (others_mean laid k l more forms sort v d b some q.0 either q.1) q.2))
      (λ a j.
      let q = on_ok_is (first_value defs.structs k v) (λ z. on_ok (other_values v) (λ o. on_ok (with_component defs.structs (l ∷ more) x o new) (pair z))) w j in
      let o = on_ok_is (other_values v) (λ z. on_ok (with_component defs.structs (l ∷ more) x z new) (pair q.0)) w q.2 in
      let z = on_ok_is (with_component defs.structs (l ∷ more) x o.0 new) (pair q.0) w o.2 in
      let found : find (λ h. bytes_eq x h.name) (l ∷ more) ≡ Some f = ap (λ h. if h then Some k else find (λ o. bytes_eq x o.name) (l ∷ more)) (sym a) ∙ p in
      let deeper = found_beyond x k.name at b.f.form b.f.rest g a (ap (λ h. field_in h x) (sym b.f.same) ∙ i) in
      let first_sort = answered b.first_sort (first_value defs.structs k v) q.0 (first_value_made defs.structs k v b.first_sort b.other_sort b.first_has (stands (pair_sort b.first_sort b.other_sort) v d either)) q.1 in
      let there = others_stand laid k l more forms sort v d b some o.0 either o.1 in
      let rest_sort = answered b.other_sort (with_component defs.structs (l ∷ more) x o.0 new) z.0 (component_updated defs.structs (l ∷ more) x f o.0 new b.other_sort r t b.others.sorted found (stands b.other_sort o.0 (other_part b.f.rest d) there) s) z.1 in
      subst (Means defs env w) (sym (with_here x k.name at b.f.form b.f.rest d e false a ∙ others_with b.f.rest d (with_field b.f.rest x (other_part b.f.rest d) e) some))
      (paired q.0 z.0 w b.first_sort b.other_sort (first_in d) (with_field b.f.rest x (other_part b.f.rest d) e) first_sort rest_sort
      (first_value_means laid k l more forms sort v d b some q.0 either q.1)
      (component_updated_means r g f x (after laid (form_layout b.f.form)) (l ∷ more) b.f.rest b.other_sort o.0 new z.0 (other_part b.f.rest d) e t found deeper b.others there s n z.1) z.2)))

  -- ---- elements

  numbers_updated : (values : Operator) (F : Datum → Datum) (i z l w : Plain) (j : ℕ) (number numbers : Datum) →
      by_row (row values) (list_sort Z ∷ []) ≡ Some (list_sort ValSort) → ((m : Plain) (d : Datum) → sort_of m ≡ Some (list_sort Z) → Means defs env m d → Means defs env (one values m) (seq (map F (items_in d)))) →
      IsNumber i → IsNumber z → sort_of l ≡ Some (list_sort Z) → Means defs env i (Number (pos j)) → Means defs env z number → Means defs env l numbers →
      numbers_with values i (z, l) ≡ Ok w → Means defs env w (seq (set (map F (items_in numbers)) j (F number)))
  numbers_updated values F i z l w j number numbers r each e f g m n k c =
      let q = on_ok_is (written (three Upd i z l)) (λ y. written (one values y)) w c in
      let sorted = three_sort Upd (list_sort Z) Z Z (list_sort Z) i z l e f g (upd_row Z) in
      let there = written_means defs env (three Upd i z l) q.0 (seq (set (items_in numbers) j number)) q.1 (three_mean defs env Upd (list_sort Z) i z l (Number (pos j)) number numbers sorted m n k) in
      let sorted2 : sort_of q.0 ≡ Some (list_sort Z) = ap sort_of (sym (written_is (three Upd i z l) q.0 q.1)) ∙ sorted in
      let items : map F (items_in (seq (set (items_in numbers) j number))) ≡ set (map F (items_in numbers)) j (F number) = ap (map F) (listed_data (set (items_in numbers) j number)) ∙ map-set F (items_in numbers) j number in
      subst (λ ds. Means defs env w (seq ds)) items
      (written_means defs env (one values q.0) w (seq (map F (items_in (seq (set (items_in numbers) j number))))) q.2 (each q.0 (seq (set (items_in numbers) j number)) sorted2 there))

  -- what the kid of a number as a value means
  pub record NumberMeans (F : Datum → Datum) (z : Plain) (e : Datum) : Type 0 where
    pub number : Datum
    pub means : Means defs env z number
    pub is : e ≡ F number

  int_means : (v z : Plain) (e : Datum) (r : Sort) → kid_under is_int 0 v ≡ Some z → sort_of v ≡ Some r → Means defs env v e → NumberMeans as_int z e
  int_means (At (h.Operator Vint) kids) z e r f g m =
      let p = applies refl m in
      let q = int_alone kids r g in
      let same : Some q.kid ≡ Some z = ap (λ ks. kid_under is_int 0 (At (h.Operator Vint) ks)) (sym q.is) ∙ f in
      let kid : q.kid ≡ z = cc in
      let a = one_datum defs env q.kid p.data' (subst (λ ks. AllMean defs env ks p.data') q.is p.mean) in
      record { number = a.0; means = subst (λ y. Means defs env y a.0) kid a.2; is = p.is ∙ ap (λ ds. applied defs.structs env (h.Operator Vint) p.sort ds) a.1 }
  int_means (At head kids) z e r f g m = absurd cc

  long_means : (v z : Plain) (e : Datum) (r : Sort) → kid_under is_long 0 v ≡ Some z → sort_of v ≡ Some r → Means defs env v e → NumberMeans as_long z e
  long_means (At (h.Operator Vlong) kids) z e r f g m =
      let p = applies refl m in
      let q = long_alone kids r g in
      let same : Some q.kid ≡ Some z = ap (λ ks. kid_under is_long 0 (At (h.Operator Vlong) ks)) (sym q.is) ∙ f in
      let kid : q.kid ≡ z = cc in
      let a = one_datum defs env q.kid p.data' (subst (λ ks. AllMean defs env ks p.data') q.is p.mean) in
      record { number = a.0; means = subst (λ y. Means defs env y a.0) kid a.2; is = p.is ∙ ap (λ ds. applied defs.structs env (h.Operator Vlong) p.sort ds) a.1 }
  long_means (At head kids) z e r f g m = absurd cc

  pub element_updated_means : (i v new w : Plain) (r : Sort) (j : ℕ) (items : Data) (e : Datum) →
      IsNumber i → sort_of v ≡ Some (list_sort r) → sort_of new ≡ Some r → Means defs env i (Number (pos j)) → Means defs env v (Seq items) → Means defs env new e →
      with_element i v new ≡ Ok w → Means defs env w (seq (set (listed items) j e))
  element_updated_means i v new w r j items e a b s m k n c = by (kid_under is_int 0 new) (kid_under is_ints 0 v) (kid_under is_long 0 new) (kid_under is_longs 0 v) refl refl refl refl c
    where
      other : written (three Upd i new v) ≡ Ok w → Means defs env w (seq (set (listed items) j e))
      other o =
          written_means defs env (three Upd i new v) w (seq (set (listed items) j e)) o
          (three_mean defs env Upd (list_sort r) i new v (Number (pos j)) e (Seq items) (three_sort Upd (list_sort r) Z r (list_sort r) i new v a s b (upd_row r)) m n k)

      put : (F : Datum → Datum) (l z : Plain) (p : KidMeans defs env F l (Seq items)) (q : NumberMeans F z e) → Means defs env w (seq (set (map F (items_in p.numbers)) j (F q.number))) → Means defs env w (seq (set (listed items) j e))
      put F l z p q o =
          let list : map F (items_in p.numbers) ≡ listed items = sym (ap items_in p.is ∙ listed_data (map F (items_in p.numbers))) in
          subst (λ d. Means defs env w (seq (set (listed items) j d))) (sym q.is) (subst (λ ds. Means defs env w (seq (set ds j (F q.number)))) list o)

      ints : (z l : Plain) → kid_under is_int 0 new ≡ Some z → kid_under is_ints 0 v ≡ Some l → numbers_with Vints i (z, l) ≡ Ok w → Means defs env w (seq (set (listed items) j e))
      ints z l f g o =
          let p = ints_mean defs env v l (Seq items) (list_sort r) g b k in
          let q = int_means new z e r f s n in
          put as_int l z p q
          (numbers_updated Vints as_int i z l w j q.number p.numbers refl (λ y d t u. one_means defs env Vints (list_sort ValSort) y d (one_sort Vints (list_sort ValSort) (list_sort Z) y t refl) u)
          a (int_kid z r new f s) (ints_kid l (list_sort r) v g b).0 m q.means p.means o)

      longs : (z l : Plain) → kid_under is_long 0 new ≡ Some z → kid_under is_longs 0 v ≡ Some l → numbers_with Vlongs i (z, l) ≡ Ok w → Means defs env w (seq (set (listed items) j e))
      longs z l f g o =
          let p = longs_mean defs env v l (Seq items) (list_sort r) g b k in
          let q = long_means new z e r f s n in
          put as_long l z p q
          (numbers_updated Vlongs as_long i z l w j q.number p.numbers refl (λ y d t u. one_means defs env Vlongs (list_sort ValSort) y d (one_sort Vlongs (list_sort ValSort) (list_sort Z) y t refl) u)
          a (long_kid z r new f s) (longs_kid l (list_sort r) v g b).0 m q.means p.means o)

      last : (x y : Option Plain) → kid_under is_long 0 new ≡ x → kid_under is_longs 0 v ≡ y → list_with None (both x y) i v new ≡ Ok w → Means defs env w (seq (set (listed items) j e))
      last (Some z) (Some l) f g o = longs z l f g o
      last (Some z) None f g o = other o
      last None y f g o = other o

      by : (x y p q : Option Plain) → kid_under is_int 0 new ≡ x → kid_under is_ints 0 v ≡ y → kid_under is_long 0 new ≡ p → kid_under is_longs 0 v ≡ q → list_with (both x y) (both p q) i v new ≡ Ok w → Means defs env w (seq (set (listed items) j e))
      by (Some z) (Some l) p q f g f' g' o = ints z l f g o
      by (Some z) None p q f g f' g' o = last p q f' g' o
      by None y p q f g f' g' o = last p q f' g' o
