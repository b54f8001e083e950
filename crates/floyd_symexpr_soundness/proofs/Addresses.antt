-- The address of an object is its place; elements of arrays, and of what a pointer leads to.
use Rattle.std.proofs.Common.{◌≡◌, ℕ, ◌^◌, ◌⊎◌, inl, inr, Bool, true, false, ℤ, pos, ◌+ℤ◌, ◌*ℤ◌, [], ◌∷◌, ◌++◌, Option, Some, None, Result, Ok, refl, sym, ap, subst, ◌∙◌, if◌then◌else◌, arith}
use Rattle.std.specs.Prelude.{option_and_then, option_map}
use Rattle.std.proofs.lemmas.Int.{ints}
use Rattle.std.proofs.lemmas.Option.{same_Some}
use Rattle.std.proofs.Math.IntN.{*ℤ-zero}
use Rattle.floyd_text.specs.declared.refusal.No.{No}
use Rattle.floyd_int.specs.declared.kinds.IntKind.{IntKind}
use Rattle.floyd_int.specs.declared.kinds.Value.{Value}
use Rattle.floyd_int.specs.declared.kinds.Value.TheVariants as v
use Rattle.floyd_int.specs.Kind.{modulo}
use Rattle.floyd_int.proofs.Modulo.{modulo-below}
use Rattle.floyd_ctypes.specs.declared.ctype.CType.{CType, Array', more_of-CType, end_of-CType}
use Rattle.floyd_ctypes.specs.Layout.{size}
use Rattle.floyd_clight_machine.specs.Evaluation.{Spot, address, led}
use Rattle.floyd_clight_machine.specs.Integers.{number_of}
use Rattle.floyd_clight_machine.specs.Pointers.{bytes_of, moved_up}
use Rattle.floyd_tree_sorts.specs.declared.heads.Head.TheVariants as h
use Rattle.floyd_tree_sorts.specs.declared.operators.Operator.TheVariants.{Vint, Vlong}
use Rattle.floyd_tree_sorts.specs.declared.sorts.Sort.{Z}
use Rattle.floyd_tree.specs.Plain.{Plain, At, Done, More}
use Rattle.floyd_tree.specs.Types.{SizedType}
use Rattle.floyd_tree.specs.WellSorted.{sort_of}
use Rattle.floyd_tree_values.specs.BuiltIns.{Env}
use Rattle.floyd_tree_values.specs.Data.{Datum, Val}
use Rattle.floyd_tree_values.specs.Means.{AllMean, Defs, Means}
use Rattle.floyd_tree_values.specs.Means as mean
use Rattle.floyd_tree_values.proofs.OneValue.{applies}
use Rattle.floyd_truth.specs.Truth.{AllTrue}
use Rattle.floyd_assert_meaning.specs.Settings.{Setting}
use Rattle.floyd_fieldpath.specs.Addresses as addresses
use Rattle.floyd_fieldpath.specs.Addresses.{on_type, path_sum}
use Rattle.floyd_fieldpath.specs.Nested.{sized_type, type_at}
use Rattle.floyd_fieldpath.specs.Projections.{kid_under}
use Rattle.floyd_fieldpath.specs.Sums.{moved}
use Rattle.floyd_fieldpath.specs.Written.{on_ok}
use Rattle.floyd_fieldpath_laws.proofs.TermSorts.{int_alone, long_alone}
use Rattle.floyd_arith.proofs.Values.{Is}
use Rattle.floyd_symexpr_rows.specs.declared.needs.Needs.{Needs}
use Rattle.floyd_symexpr_rows.specs.declared.needs.Number as n
use Rattle.floyd_symexpr_rows.specs.Formulas.{is_pointer}
use Rattle.floyd_symexpr_rows.specs.Rows.{is_long, is_vint, is_vlong, number, number_under, or_no_number, range}
use Rattle.floyd_symexpr_laws.proofs.MachineOperations.{number_for, value_for}
use Rattle.floyd_symexpr_laws.proofs.SideTruths.{all_true_first, all_true_second, is_row, own_sides, range_is, range_means}
use Rattle.floyd_symexpr_laws.proofs.TermMeanings.{literal_means, ok_parts, operand_is}
use Rattle.floyd_symexpr_pointer_laws.proofs.SizeTerms.{moved_is}
use Rattle.floyd_symexpr_paths.specs.declared.lvalue.Lvalue.{Lvalue}
use Rattle.floyd_symexpr_paths.specs.Places.{address_row, element, first, path_of, root_sides, subscript_ranges}
use Rattle.floyd_symexpr_soundness.proofs.Evaluations.{Evaluates}
use Rattle.floyd_symexpr_soundness.proofs.Adding.{ElementAdds}
use Rattle.floyd_symexpr_soundness.proofs.Reaching.{reach_sum, reach_type, subscript_is, zero_adds_nothing}
use Rattle.floyd_symexpr_soundness.proofs.Standing.{Stands, stands_element, stays}

-- ---- places of values

-- where a pointer leads, it is the pointer to that place
pub led_back : (o : Option Value) (s : Spot) → option_and_then led o ≡ Some s → o ≡ Some (address s)
led_back (Some (v.Vptr block offset)) s e =
    let same : ◌≡◌ {A = Spot} (record { block = block; offset = offset }) s = cc in
    ap (λ (p : Spot). Some (v.Vptr p.block p.offset)) same
led_back (Some v.Vundef) s e = absurd cc
led_back (Some (v.Vint bits)) s e = absurd cc
led_back (Some (v.Vlong bits)) s e = absurd cc
led_back None s e = absurd cc

-- an address leads back to its place
pub led_address : (o : Option Spot) → option_and_then led (option_map address o) ≡ o
led_address None = refl
led_address (Some s) = refl

module _ (S : Setting) (env : Env) where
  one_val : {t : Plain} {d : Datum} → AllMean S.defs env (More t Done) (d ∷ []) → Means S.defs env t d
  one_val (mean.more m mean.none) = m

  -- ---- addresses

  pub record IsRoot (l : Lvalue) : Type 0 where
    pub block : ℕ
    pub start : ℕ
    pub means : Means S.defs env l.root (Val (v.Vptr block start))

  -- what is asked of a root makes it a pointer
  root_is : (l : Lvalue) → (l.is_value ≡ true) ⊎ ((block : ℕ) × Means S.defs env l.root (Val (v.Vptr block 0))) → AllTrue S.defs S.has_spec env (root_sides l) → IsRoot l
  root_is l (inr (block, mean)) all = record { block = block; start = 0; means = mean }
  root_is l (inl e) all =
      let own : AllTrue S.defs S.has_spec env (is_pointer l.root ∷ []) = subst (λ b. AllTrue S.defs S.has_spec env (if b then is_pointer l.root ∷ [] else [])) e all in
      record { block = own.0.0; start = own.0.1; means = one_val own.0.2 }

  type_parts : {A : Type 0} (o : Option SizedType) (u : SizedType) (d : Result A No) (a : A) → o ≡ Some u → on_type o (λ t. d) ≡ Ok a → d ≡ Ok a
  type_parts (Some t) u d a e f = f
  type_parts None u d a e f = absurd cc

  nothing_before : (z : ℤ) → pos 0 +ℤ z ≡ z
  nothing_before z = omega (arith, ints)

  -- the term of an address has its value
  pub address_means : (l : Lvalue) (T : CType) (found : Option Spot) (t : Plain) (needs more : Needs) → Stands S env l T found → address_row S.defs.structs l needs ≡ Ok (t, more) → AllTrue S.defs S.has_spec env more.sides → Evaluates S.defs env t (option_map address found)
  address_means l T found t needs more s e all =
      let structs = S.defs.structs in
      let term = addresses.address structs (sized_type l.whole) (path_of l.form) l.root in
      let sides = root_sides l ++ subscript_ranges l.subscripts in
      let w = is_row term sides needs t more e in
      let own = own_sides S.defs S.has_spec env term sides needs t more w all in
      let root = root_is l s.rooted (all_true_first S.defs S.has_spec env (root_sides l) (subscript_ranges l.subscripts) own) in
      let ranged = all_true_second S.defs S.has_spec env (root_sides l) (subscript_ranges l.subscripts) own in
      let made = type_parts (type_at structs (sized_type l.whole) (path_of l.form)) (sized_type T) (on_ok (path_sum structs (sized_type l.whole) (path_of l.form) None) (moved l.root)) t (reach_type structs S.defs env s.reach) w.made in
      let q = ok_parts (path_sum structs (sized_type l.whole) (path_of l.form) None) (moved l.root) t made in
      let sum : Is S.defs env q.0 s.bytes = subst (λ z. Is S.defs env q.0 z) (nothing_before s.bytes) (reach_sum structs S.defs env s.reach None (pos 0) refl q.0 q.1) in
      let place = modulo (pos root.start +ℤ s.bytes) (2 ^ 64) in
      record {
        agrees = record {
          value = v.Vptr root.block place;
          is = ap (option_map address) (s.is root.block root.start root.means ranged);
          means = moved_is S.defs env l.root q.0 t root.block root.start s.bytes (s.low root.block root.start root.means) root.means sum q.2;
        };
        value = modulo-below (pos root.start +ℤ s.bytes) (2 ^ 64) (omega arith);
      }

  -- ---- elements

  int_sorted : (t u : Plain) (x : Value) → kid_under is_vint 0 t ≡ Some u → Means S.defs env t (Val x) → sort_of u ≡ Some Z
  int_sorted (At (h.Operator Vint) kids) u x e m =
      let p = applies refl m in
      let o = int_alone kids p.sort p.sorted in
      let same : Some o.kid ≡ Some u = ap (λ ks. kid_under is_vint 0 (At (h.Operator Vint) ks)) (sym o.is) ∙ e in
      let kid : o.kid ≡ u = cc in
      ap sort_of (sym kid) ∙ o.sort
  int_sorted (At head kids) u x e m = absurd cc

  long_sorted : (t u : Plain) (x : Value) → kid_under is_vlong 0 t ≡ Some u → Means S.defs env t (Val x) → sort_of u ≡ Some Z
  long_sorted (At (h.Operator Vlong) kids) u x e m =
      let p = applies refl m in
      let o = long_alone kids p.sort p.sorted in
      let same : Some o.kid ≡ Some u = ap (λ ks. kid_under is_vlong 0 (At (h.Operator Vlong) ks)) (sym o.is) ∙ e in
      let kid : o.kid ≡ u = cc in
      ap sort_of (sym kid) ∙ o.sort
  long_sorted (At head kids) u x e m = absurd cc

  -- the number of an operand is a term of a number
  number_sorted : (k : IntKind) (t : Plain) (x : Value) (a : n.Number) → number k t ≡ Ok a → Means S.defs env t (Val x) → sort_of a.term ≡ Some Z
  number_sorted k t x a e m = by (number_under k t) refl e
    where
      under : (u : Plain) (b : Bool) → (if b then kid_under is_vlong 0 t else kid_under is_vint 0 t) ≡ Some u → sort_of u ≡ Some Z
      under u true f = long_sorted t u x f m
      under u false f = int_sorted t u x f m

      by : (o : Option Plain) → number_under k t ≡ o → or_no_number k o ≡ Ok a → sort_of a.term ≡ Some Z
      by (Some u) f g =
          let same : ◌≡◌ {A = n.Number} (record { kind = k; term = u }) a = cc in
          subst (λ (b : n.Number). sort_of b.term ≡ Some Z) same (under u (is_long k) f)
      by None f g = absurd cc

  -- what an operand adds to a place as the subscript of elements of a type
  pub record IsSubscript (t : CType) (count : ℕ) (k : IntKind) (w : Value) (i : n.Number) : Type 0 where
    pub number : ℤ
    pub is : Is S.defs env i.term number
    pub adds : AllTrue S.defs S.has_spec env (range i.kind i.term) → ElementAdds S.defs env i.term (sized_type t) (pos count *ℤ number)
    pub read : AllTrue S.defs S.has_spec env (range i.kind i.term) → number_of k w ≡ Some number

  zero_times : (count : ℕ) (y : ℤ) → y ≡ pos 0 → pos count *ℤ y ≡ pos 0
  zero_times count y e = ap (λ z. pos count *ℤ z) e ∙ *ℤ-zero (pos count)

  pub is_subscript : (t : CType) (count : ℕ) (k : IntKind) (u : Plain) (w : Value) (i : n.Number) → size S.defs.structs t ≡ Some count → number k u ≡ Ok i → Means S.defs env u (Val w) → IsSubscript t count k w i
  is_subscript t count k u w i sized e m =
      let o = operand_is S.defs env k u w i e m in
      record {
        number = o.number;
        is = o.is;
        adds = λ ranged. record {
          element = t;
          is = refl;
          subscript = o.number;
          means = range_means S.defs S.has_spec env i.kind i.term o.number ranged o.is;
          sorted = number_sorted k u w i e m;
          bytes = λ c f. ap (λ b. pos b *ℤ o.number) (same_Some count c (sym sized ∙ f));
          nothing = λ zero. zero_times count o.number zero;
        };
        read = λ ranged. ap (number_of k) o.value ∙ ap (λ j. number_of j (value_for j o.number)) (sym o.kind) ∙ number_for i.kind o.number (range_is S.defs S.has_spec env i.kind i.term o.number ranged o.is);
      }

  -- a pointer moved by a subscript leads to the element
  moves_to : (t : CType) (count block offset : ℕ) (y : ℤ) → size S.defs.structs t ≡ Some count →
      option_and_then led (option_and_then (moved_up (v.Vptr block offset)) (bytes_of S.defs.structs t y)) ≡ Some (record { block = block; offset = modulo (pos offset +ℤ pos count *ℤ y) (2 ^ 64) })
  moves_to t count block offset y e = ap (λ o. option_and_then led (option_and_then (moved_up (v.Vptr block offset)) (option_map (λ b. pos b *ℤ y) o))) e

  -- an element at a subscript, where the machine moves the pointer by it
  pub stands_at : (t : CType) (length count : ℕ) (k : IntKind) (u : Plain) (w : Value) (i : n.Number) (l : Lvalue) (base there : Option Value) →
      size S.defs.structs t ≡ Some count → number k u ≡ Ok i → Means S.defs env u (Val w) →
      Stands S env l (Array' tt (more_of-CType t end_of-CType) length) (option_and_then led base) →
      ((p : Value) (y : ℤ) → base ≡ Some p → number_of k w ≡ Some y → there ≡ option_and_then (moved_up p) (bytes_of S.defs.structs t y)) →
      Stands S env (element t i l) t (option_and_then led there)
  stands_at t length count k u w i l base there sized e m s on =
      let b = is_subscript t count k u w i sized e m in
      stands_element S env l t length (option_and_then led base) (option_and_then led there) i (pos count *ℤ b.number) s
      (subscript_is S.defs.structs S.defs env (sized_type (Array' tt (more_of-CType t end_of-CType) length)) t i.term count b.number sized b.is)
      b.adds
      (λ p found low ranged. ap (option_and_then led) (on (address p) b.number (led_back base p found) (b.read ranged)) ∙ moves_to t count p.block p.offset b.number sized)

  first_adds : (t : CType) → ElementAdds S.defs env first.term (sized_type t) (pos 0)
  first_adds t =
      record {
        element = t;
        is = refl;
        subscript = pos 0;
        means = literal_means S.defs env (pos 0);
        sorted = refl;
        bytes = λ c f. sym (*ℤ-zero (pos c));
        nothing = λ zero. refl;
      }

  -- the first element stands where the array does
  pub stands_first : (t : CType) (length : ℕ) (l : Lvalue) (found : Option Spot) → Stands S env l (Array' tt (more_of-CType t end_of-CType) length) found → Stands S env (element t first l) t found
  stands_first t length l found s =
      stands_element S env l t length found found first (pos 0) s
      (zero_adds_nothing S.defs.structs S.defs env (sized_type (Array' tt (more_of-CType t end_of-CType) length)) t)
      (λ ranged. first_adds t)
      (λ p e low ranged. e ∙ ap (λ o. Some (record { block = p.block; offset = o })) (stays p.offset low))
