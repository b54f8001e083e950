-- The item at a path of a value means the item of its datum, where the datum is shaped as the type.
use Rattle.std.proofs.Common.{◌≡◌, ℕ, zero, suc, ◌<◌, Bool, true, false, ℤ, pos, List, [], ◌∷◌, map, length, get_or, Option, Some, None, Result, Ok, All, refl, sym, ◌∙◌, ap, subst, bytes_eq, arith}
use Rattle.std.specs.Prelude.{if◌then◌else◌}
use Rattle.std.proofs.lemmas.List.{get_or-map, length-map}
use Rattle.floyd_text.specs.declared.refusal.No.{No}
use Rattle.floyd_ctypes.specs.declared.field.Field.{Field}
use Rattle.floyd_ctypes.specs.declared.layout.Layout.{Layout}
use Rattle.floyd_ctypes.specs.Layout.{after, offset_after}
use Rattle.floyd_ctypes.specs.Structs.{Structs, completes}
use Rattle.floyd_tree_sorts.specs.declared.heads.Head.TheVariants as h
use Rattle.floyd_tree_sorts.specs.declared.operators.Operator.{Operator}
use Rattle.floyd_tree_sorts.specs.declared.operators.Operator.TheVariants.{Fst, Snd, Nth, Pair as PairOf, Vint, Vints, Vlong, Vlongs, Vundef}
use Rattle.floyd_tree_sorts.specs.declared.shape.Shape.{Shape, more_of-Shape, end_of-Shape}
use Rattle.floyd_tree_sorts.specs.declared.shape.Shape as s
use Rattle.floyd_tree_sorts.specs.declared.sorts.Sort.{Sort, Z, Val as ValSort}
use Rattle.floyd_tree_sorts.specs.Rows.{is_scalar}
use Rattle.floyd_tree_sorts.specs.Sorts.{list_sort, pair_sort}
use Rattle.floyd_tree.specs.Plain.{Plain, At, Done, More, head_of, plains}
use Rattle.floyd_tree.specs.Types.{SizedType}
use Rattle.floyd_tree.specs.WellSorted.{sort_of}
use Rattle.floyd_tree_values.specs.BuiltIns.{Env, applied}
use Rattle.floyd_tree_values.specs.Data.{Datum, Data, Number, Val, Seq, Pair, listed, seq, first_in, second_in, items_in, number_in, default_of}
use Rattle.floyd_tree_values.specs.Defaults.{undefined, default_value, fields_sort, type_sort, value_sort}
use Rattle.floyd_tree_values.specs.Means.{Defs, Means, AllMean, built_in, none}
use Rattle.floyd_tree_values.specs.Values.{vint, vlong}
use Rattle.floyd_tree_values.proofs.OneValue.{applies, no_data, split}
use Rattle.floyd_assert_cells.specs.Forms.{Form, Fields, EndAt, FieldAt, fields_form, form_layout, form_of, struct_form}
use Rattle.floyd_assert_cells.specs.Items.{Found, field_in, field_value, first_part, other_part}
use Rattle.floyd_assert_cells.specs.Types.{Sized}
use Rattle.floyd_assert_cells.proofs.DefaultCells.{default_is, form_default, listed_data}
use Rattle.floyd_fieldpath.specs.DefaultTerms.{default_term}
use Rattle.floyd_fieldpath.specs.Projections.{component, default_of as default_of_type, default_with, element, first_of, is_default, is_ints, is_longs, kid_under, of_list, one, second_of, value_at}
use Rattle.floyd_fieldpath.specs.Sums.{two}
use Rattle.floyd_fieldpath.specs.Written.{written}
use Rattle.floyd_fieldpath.proofs.SortDepths.{pair_some}
use Rattle.floyd_fieldpath_laws.specs.Conditions.{HasSizes, IsNumber}
use Rattle.floyd_fieldpath_laws.proofs.AddressMeanings.{TypeMeans, answered}
use Rattle.floyd_fieldpath_laws.proofs.Blanks.{AreShaped, AreSolid, FormsOf, HasFields, IsBlank, IsParted, IsShaped, IsSolid, alone_of, default_blank, element_blank, field_blank, forms_of, found_alone, found_beyond, has_fields}
use Rattle.floyd_fieldpath_laws.proofs.Meanings.{on_ok_is, one_means, two_mean, written_is, written_means}
use Rattle.floyd_fieldpath_laws.proofs.SortedItems.{default_sort, second_made}
use Rattle.floyd_fieldpath_laws.proofs.Tests.{tested}
use Rattle.floyd_fieldpath_laws.proofs.TermSorts.{fst_row, ints_alone, ints_kid, longs_alone, longs_kid, nth_row, one_sort, pair_kids, snd_row, two_sort}
use Rattle.floyd_fieldpath_laws.proofs.TypeSorts.{sorts}

-- ---- lists

pub same_at : (ds : List Datum) (j : ℕ) (a b : Datum) → j < length ds → get_or ds j a ≡ get_or ds j b
same_at [] j a b l = absurd (omega (arith, l))
same_at (d ∷ ds) zero a b l = refl
same_at (d ∷ ds) (suc j) a b l = same_at ds j a b (omega (arith, l))

numbers_back : (zs : List ℤ) → map number_in (map Number zs) ≡ zs
numbers_back [] = refl
numbers_back (z ∷ zs) = ap (λ rest. z ∷ rest) (numbers_back zs)

-- numbers as values
abbrev pub as_int : Datum → Datum
as_int d = Val (vint (number_in d))

abbrev pub as_long : Datum → Datum
as_long d = Val (vlong (number_in d))

-- of two or more fields the parts are those of a pair
pub first_is : (rest : Fields) (d : Datum) → HasFields rest → first_part rest d ≡ first_in d
first_is (EndAt size) d e = absurd e
first_is (FieldAt name at f rest) d e = refl

pub second_is : (rest : Fields) (d : Datum) → HasFields rest → other_part rest d ≡ second_in d
second_is (EndAt size) d e = absurd e
second_is (FieldAt name at f rest) d e = refl

module _ (defs : Defs) (env : Env) where
  -- ---- defaults

  scalar_default : (structs : Structs) (shape : Shape) (sizes : List ℤ) → is_scalar shape ≡ true → default_value structs shape sizes ≡ undefined
  scalar_default structs (s.Int kind) sizes e = refl
  scalar_default structs (s.Pointer' p to) sizes e = refl
  scalar_default structs s.Void sizes e = absurd cc
  scalar_default structs (s.Array' p a) sizes e = absurd cc
  scalar_default structs (s.Struct tag) sizes e = absurd cc
  scalar_default structs (s.Function' q ps p r) sizes e = absurd cc

  term_means : (t : SizedType) (T : Sized) (r : Sort) → HasSizes t → TypeMeans defs env t T → Means defs env (default_term t r) (default_value defs.structs t.shape T.sizes)
  term_means t T r w m = by (is_scalar t.shape) refl
    where
      by : (b : Bool) → is_scalar t.shape ≡ b → Means defs env (if b then At (h.Operator Vundef) Done else At (h.Default t.shape r) (plains t.sizes)) (default_value defs.structs t.shape T.sizes)
      by true e = subst (Means defs env (At (h.Operator Vundef) Done)) (sym (scalar_default defs.structs t.shape T.sizes e)) (built_in refl refl none)
      by false e =
          subst (λ zs. Means defs env (At (h.Default t.shape r) (plains t.sizes)) (default_value defs.structs t.shape zs)) (numbers_back T.sizes)
          (built_in refl (default_sort t r w) m.sizes)

  -- the default of a type means the default of its form
  pub default_means : (t : SizedType) (T : Sized) (r : Sort) (g : Form) (w : Plain) → HasSizes t → TypeMeans defs env t T → value_sort defs.structs t.shape ≡ Some r → form_of defs.structs T ≡ Some g → default_of_type defs.structs t ≡ Ok w → Means defs env w (form_default g)
  default_means t T r g w z m e f k =
      let made : written (default_term t r) ≡ Ok w = ap (λ o. default_with o t) (sym e) ∙ k in
      let same : default_value defs.structs t.shape T.sizes ≡ form_default g = ap (λ x. default_value defs.structs x T.sizes) (sym m.shape) ∙ default_is defs.structs T g f in
      subst (Means defs env w) same (written_means defs env (default_term t r) w (default_value defs.structs t.shape T.sizes) made (term_means t T r z m))

  -- the datum of a default is blank
  pub means_blank : (v : Plain) (d : Datum) → is_default (head_of v) ≡ true → Means defs env v d → IsBlank d
  means_blank (At (h.Default shape r) kids) d e m = let p = applies refl m in subst IsBlank (sym p.is) (default_blank defs.structs shape (map number_in p.data'))
  means_blank (At head kids) d e m = absurd cc

  -- ---- pairs

  pub record PairMeans (x y : Plain) (d : Datum) : Type 0 where
    pub first : Means defs env x (first_in d)
    pub second : Means defs env y (second_in d)

  pub pair_means : (x y : Plain) (d : Datum) → Means defs env (At (h.Operator PairOf) (More x (More y Done))) d → PairMeans x y d
  pair_means x y d m =
      let p = applies refl m in
      let a = split p.mean in
      let b = split a.rest in
      let none = no_data b.rest in
      let all : p.data' ≡ a.datum ∷ b.datum ∷ [] = a.is ∙ ap (λ ds. a.datum ∷ ds) (b.is ∙ ap (λ ds. b.datum ∷ ds) none) in
      let same : d ≡ Pair a.datum b.datum = p.is ∙ ap (λ ds. applied defs.structs env (h.Operator PairOf) p.sort ds) all in
      record { first = subst (Means defs env x) (ap first_in (sym same)) a.first; second = subst (Means defs env y) (ap second_in (sym same)) b.first }

  pub first_means : (v w : Plain) (d : Datum) (a b : Sort) → sort_of v ≡ Some (pair_sort a b) → Means defs env v d → first_of v ≡ Ok w → Means defs env w (first_in d)
  first_means (At (h.Operator PairOf) kids) w d a b e m f =
      let k = pair_kids kids a b e in
      let p = pair_means k.first k.second d (subst (λ ks. Means defs env (At (h.Operator PairOf) ks) d) k.is m) in
      let taken : ◌≡◌ {A = Result Plain No} (Ok k.first) (Ok w) = ap (λ ks. first_of (At (h.Operator PairOf) ks)) (sym k.is) ∙ f in
      let same : k.first ≡ w = cc in
      subst (λ x. Means defs env x (first_in d)) same p.first
  first_means (At head kids) w d a b e m f =
      written_means defs env (one Fst (At head kids)) w (first_in d) f (one_means defs env Fst a (At head kids) d (one_sort Fst a (pair_sort a b) (At head kids) e (fst_row a b)) m)

  pub second_means : (v w : Plain) (d : Datum) (a b : Sort) → sort_of v ≡ Some (pair_sort a b) → Means defs env v d → second_of v ≡ Ok w → Means defs env w (second_in d)
  second_means (At (h.Operator PairOf) kids) w d a b e m f =
      let k = pair_kids kids a b e in
      let p = pair_means k.first k.second d (subst (λ ks. Means defs env (At (h.Operator PairOf) ks) d) k.is m) in
      let taken : ◌≡◌ {A = Result Plain No} (Ok k.second) (Ok w) = ap (λ ks. second_of (At (h.Operator PairOf) ks)) (sym k.is) ∙ f in
      let same : k.second ≡ w = cc in
      subst (λ x. Means defs env x (second_in d)) same p.second
  second_means (At head kids) w d a b e m f =
      written_means defs env (one Snd (At head kids)) w (second_in d) f (one_means defs env Snd b (At head kids) d (one_sort Snd b (pair_sort a b) (At head kids) e (snd_row a b)) m)

  -- ---- fields

  -- a value with what it means, and how that is shaped
  pub record FieldsMean (laid : Layout) (fields : List Field) (forms : Fields) (sort : Sort) (d : Datum) : Type 0 where
    pub form : fields_form (struct_form (completes defs.structs) defs.structs) laid fields ≡ Some forms
    pub sorted : fields_sort (sorts defs.structs) fields ≡ Some sort
    pub solid : AreSolid forms
    pub shaped : AreShaped forms d

  -- those behind the first field
  pub record Behind (laid : Layout) (k : Field) (more : List Field) (forms : Fields) (sort : Sort) (d : Datum) : Type 0 where
    pub f : FormsOf (struct_form (completes defs.structs) defs.structs) laid k more forms
    pub first_sort : Sort
    pub other_sort : Sort
    pub first_has : type_sort (sorts defs.structs) k.ty ≡ Some first_sort
    pub sort_is : pair_sort first_sort other_sort ≡ sort
    pub solid : IsSolid f.form
    pub parted : IsParted f.rest d
    pub shaped : IsShaped f.form (first_part f.rest d)
    pub others : FieldsMean (after laid (form_layout f.form)) more f.rest other_sort (other_part f.rest d)

  pub behind : (laid : Layout) (k l : Field) (more : List Field) (forms : Fields) (sort : Sort) (d : Datum) → FieldsMean laid (k ∷ l ∷ more) forms sort d → Behind laid k (l ∷ more) forms sort d
  behind laid k l more forms sort d m =
      let f = forms_of (struct_form (completes defs.structs) defs.structs) laid k (l ∷ more) forms m.form in
      let p = pair_some (type_sort (sorts defs.structs) k.ty) (fields_sort (sorts defs.structs) (l ∷ more)) sort m.sorted in
      let solid = subst AreSolid f.same m.solid in
      let shaped = subst (λ g. AreShaped g d) f.same m.shaped in
      record {
        f = f;
        first_sort = p.0;
        other_sort = p.1;
        first_has = p.2;
        sort_is = p.4;
        solid = solid.0;
        parted = shaped.0;
        shaped = shaped.1;
        others = record { form = f.rest_is; sorted = p.3; solid = solid.1; shaped = shaped.2 };
      }

  field_here : (x name : List ℕ) (at : ℕ) (f : Form) (rest : Fields) (d : Datum) (b : Bool) → bytes_eq x name ≡ b → field_value (FieldAt name at f rest) x d ≡ (if b then first_part rest d else field_value rest x (other_part rest d))
  field_here x name at f rest d b e = ap (λ t. if t then first_part rest d else field_value rest x (other_part rest d)) e

  pub component_means : (u : SizedType) (U : Sized) (r : Sort) (g : Found) (x : List ℕ) (laid : Layout) (fields : List Field) (forms : Fields) (sort : Sort) (v w : Plain) (d : Datum) →
      HasSizes u → TypeMeans defs env u U → value_sort defs.structs u.shape ≡ Some r → form_of defs.structs U ≡ Some g.form → field_in forms x ≡ Some g →
      FieldsMean laid fields forms sort d → sort_of v ≡ Some sort → Means defs env v d → component defs.structs u fields x v ≡ Ok w → Means defs env w (field_value forms x d)
  component_means u U r g x laid [] forms sort v w d z t e q i m y n c = absurd cc
  component_means u U r g x laid (k ∷ []) forms sort v w d z t e q i m y n c =
      let f = alone_of (struct_form (completes defs.structs) defs.structs) laid k forms m.form in
      let at = offset_after laid (form_layout f.form) in
      let here = found_alone x k.name at f.size f.form g (ap (λ y. field_in y x) (sym f.same) ∙ i) in
      let value : d ≡ field_value forms x d = ap (λ b. if b then d else undefined) (sym here) ∙ ap (λ y. field_value y x d) (sym f.same) in
      let same : v ≡ w = cc in
      subst (λ y. Means defs env y (field_value forms x d)) same (subst (Means defs env v) value n)
  component_means u U r g x laid (k ∷ l ∷ more) forms sort v w d z t e q i m y n c =
      let b = behind laid k l more forms sort d m in
      let at = offset_after laid (form_layout b.f.form) in
      let some = has_fields (struct_form (completes defs.structs) defs.structs) (after laid (form_layout b.f.form)) l more b.f.rest b.f.rest_is in
      let sorted : sort_of v ≡ Some (pair_sort b.first_sort b.other_sort) = y ∙ ap Some (sym b.sort_is) in
      tested (Means defs env w (field_value forms x d)) (is_default (head_of v)) _ _ (Ok w) c
      (λ p j. subst (Means defs env w) (sym (field_blank x g forms d m.solid m.shaped (means_blank v d p n) i)) (default_means u U r g.form w z t e q j))
      (λ p j. subst (λ a. Means defs env w (field_value a x d)) (sym b.f.same)
      (tested (Means defs env w (field_value (FieldAt k.name at b.f.form b.f.rest) x d)) (bytes_eq x k.name) _ _ (Ok w) j
      (λ a o. subst (Means defs env w) (sym (field_here x k.name at b.f.form b.f.rest d true a ∙ first_is b.f.rest d some)) (first_means v w d b.first_sort b.other_sort sorted n o))
      (λ a o.
      let s2 = on_ok_is (second_of v) (component defs.structs u (l ∷ more) x) w o in
      let deeper = found_beyond x k.name at b.f.form b.f.rest g a (ap (λ y. field_in y x) (sym b.f.same) ∙ i) in
      let sorted2 = second_sort v s2.0 b.first_sort b.other_sort sorted s2.1 in
      let means2 = subst (Means defs env s2.0) (sym (second_is b.f.rest d some)) (second_means v s2.0 d b.first_sort b.other_sort sorted n s2.1) in
      subst (Means defs env w) (sym (field_here x k.name at b.f.form b.f.rest d false a))
      (component_means u U r g x (after laid (form_layout b.f.form)) (l ∷ more) b.f.rest b.other_sort s2.0 w (other_part b.f.rest d) z t e q deeper b.others sorted2 means2 s2.2))))
    where
      second_sort : (v w : Plain) (a b : Sort) → sort_of v ≡ Some (pair_sort a b) → second_of v ≡ Ok w → sort_of w ≡ Some b
      second_sort v w a b e f = answered b (second_of v) w (second_made v a b e) f

  -- ---- elements

  -- what the kid of a list of numbers means
  pub record KidMeans (F : Datum → Datum) (l : Plain) (d : Datum) : Type 0 where
    pub numbers : Datum
    pub means : Means defs env l numbers
    pub is : d ≡ seq (map F (items_in numbers))

  pub one_datum : (l : Plain) (ds : List Datum) → AllMean defs env (More l Done) ds → (d : Datum) × (ds ≡ d ∷ []) × Means defs env l d
  one_datum l ds m =
      let a = split m in
      (a.datum, a.is ∙ ap (λ xs. a.datum ∷ xs) (no_data a.rest), a.first)

  pub ints_mean : (v l : Plain) (d : Datum) (r : Sort) → kid_under is_ints 0 v ≡ Some l → sort_of v ≡ Some r → Means defs env v d → KidMeans as_int l d
  ints_mean (At (h.Operator Vints) kids) l d r e g m =
      let p = applies refl m in
      let q = ints_alone kids r g in
      let same : Some q.kid ≡ Some l = ap (λ ks. kid_under is_ints 0 (At (h.Operator Vints) ks)) (sym q.is) ∙ e in
      let kid : q.kid ≡ l = cc in
      let a = one_datum q.kid p.data' (subst (λ ks. AllMean defs env ks p.data') q.is p.mean) in
      record { numbers = a.0; means = subst (λ y. Means defs env y a.0) kid a.2; is = p.is ∙ ap (λ ds. applied defs.structs env (h.Operator Vints) p.sort ds) a.1 }
  ints_mean (At head kids) l d r e g m = absurd cc

  pub longs_mean : (v l : Plain) (d : Datum) (r : Sort) → kid_under is_longs 0 v ≡ Some l → sort_of v ≡ Some r → Means defs env v d → KidMeans as_long l d
  longs_mean (At (h.Operator Vlongs) kids) l d r e g m =
      let p = applies refl m in
      let q = longs_alone kids r g in
      let same : Some q.kid ≡ Some l = ap (λ ks. kid_under is_longs 0 (At (h.Operator Vlongs) ks)) (sym q.is) ∙ e in
      let kid : q.kid ≡ l = cc in
      let a = one_datum q.kid p.data' (subst (λ ks. AllMean defs env ks p.data') q.is p.mean) in
      record { numbers = a.0; means = subst (λ y. Means defs env y a.0) kid a.2; is = p.is ∙ ap (λ ds. applied defs.structs env (h.Operator Vlongs) p.sort ds) a.1 }
  longs_mean (At head kids) l d r e g m = absurd cc

  -- a number of a list, as a value
  number_at : (operator : Operator) (F : Datum → Datum) (i l w : Plain) (j : ℕ) (items : Data) (numbers : Datum) →
      ((n : Plain) (d : Datum) → IsNumber n → Means defs env n d → Means defs env (one operator n) (F d)) →
      IsNumber i → sort_of l ≡ Some (list_sort Z) → Means defs env i (Number (pos j)) → Means defs env l numbers → Seq items ≡ seq (map F (items_in numbers)) → j < length (listed items) →
      value_at operator i l ≡ Ok w → Means defs env w (get_or (listed items) j undefined)
  number_at operator F i l w j items numbers each e f m n same small c =
      let k = on_ok_is (written (two Nth i l)) (λ x. written (one operator x)) w c in
      let default : Datum = Number (pos 0) in
      let number_sort = two_sort Nth Z Z (list_sort Z) i l e f refl in
      let number = two_mean defs env Nth Z i l (Number (pos j)) numbers number_sort m n in
      let there = written_means defs env (two Nth i l) k.0 (get_or (items_in numbers) j default) k.1 number in
      let sorted : IsNumber k.0 = ap sort_of (sym (written_is (two Nth i l) k.0 k.1)) ∙ number_sort in
      let listed_is : listed items ≡ map F (items_in numbers) = ap items_in same ∙ listed_data (map F (items_in numbers)) in
      let within : j < length (items_in numbers) = subst (λ q. j < q) (ap length listed_is ∙ length-map (items_in numbers) F) small in
      let item : get_or (listed items) j undefined ≡ F (get_or (items_in numbers) j default) = ap (λ ds. get_or ds j undefined) listed_is ∙ get_or-map F (items_in numbers) j default undefined within in
      subst (Means defs env w) (sym item) (written_means defs env (one operator k.0) w (F (get_or (items_in numbers) j default)) k.2 (each k.0 (get_or (items_in numbers) j default) sorted there))

  pub element_means : (u : SizedType) (U : Sized) (r : Sort) (g : Form) (n : ℕ) (i v w : Plain) (j : ℕ) (items : Data) →
      HasSizes u → TypeMeans defs env u U → value_sort defs.structs u.shape ≡ Some r → form_of defs.structs U ≡ Some g → IsSolid g →
      IsNumber i → sort_of v ≡ Some (list_sort r) → Means defs env i (Number (pos j)) → Means defs env v (Seq items) → All (IsShaped g) (listed items) → j < length (listed items) →
      element defs.structs u i v ≡ Ok w → Means defs env w (get_or (listed items) j undefined)
  element_means u U r g n i v w j items z t e q solid a b m k all small c =
      tested (Means defs env w (get_or (listed items) j undefined)) (is_default (head_of v)) _ _ (Ok w) c
      (λ p o. subst (Means defs env w) (sym (element_blank g items j solid small all (means_blank v (Seq items) p k))) (default_means u U r g w z t e q o))
      (λ p o. by (kid_under is_ints 0 v) (kid_under is_longs 0 v) refl refl o)
    where
      by : (x y : Option Plain) → kid_under is_ints 0 v ≡ x → kid_under is_longs 0 v ≡ y → of_list x y i v ≡ Ok w → Means defs env w (get_or (listed items) j undefined)
      by (Some l) y f d o =
          let s1 = ints_kid l (list_sort r) v f b in
          let p = ints_mean v l (Seq items) (list_sort r) f b k in
          number_at Vint as_int i l w j items p.numbers (λ n d s m. one_means defs env Vint ValSort n d (one_sort Vint ValSort Z n s refl) m) a s1.0 m p.means p.is small o
      by None (Some l) f d o =
          let s1 = longs_kid l (list_sort r) v d b in
          let p = longs_mean v l (Seq items) (list_sort r) d b k in
          number_at Vlong as_long i l w j items p.numbers (λ n d s m. one_means defs env Vlong ValSort n d (one_sort Vlong ValSort Z n s refl) m) a s1.0 m p.means p.is small o
      by None None f d o =
          subst (Means defs env w) (same_at (listed items) j (default_of r) undefined small)
          (written_means defs env (two Nth i v) w (get_or (listed items) j (default_of r)) o
          (two_mean defs env Nth r i v (Number (pos j)) (Seq items) (two_sort Nth r Z (list_sort r) i v a b (nth_row r)) m k))
