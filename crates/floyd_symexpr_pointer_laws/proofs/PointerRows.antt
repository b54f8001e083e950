-- Rows on pointers.
use Rattle.std.proofs.Common.{◌≡◌, ℕ, ◌+◌, ◌^◌, ◌<◌, ◌≤◌, Bool, true, false, not, ℤ, pos, ◌+ℤ◌, ◌-ℤ◌, ◌*ℤ◌, List, [], ◌∷◌, ◌++◌, map, Option, Some, None, Result, Ok, Err, refl, sym, ap, ap₂, subst, ◌∙◌, if◌then◌else◌, arith}
use Rattle.std.specs.Prelude.{◌==◌, int_le, int_lt, option_and_then, option_map}
use Rattle.std.specs.Int.{from_bool}
use Rattle.std.proofs.lemmas.Int.{ints}
use Rattle.floyd_text.specs.declared.refusal.No.{No}
use Rattle.floyd_int.specs.declared.kinds.IntKind.{IntKind}
use Rattle.floyd_int.specs.declared.kinds.IntOp.{IntOp}
use Rattle.floyd_int.specs.declared.kinds.IntOp.TheVariants as c
use Rattle.floyd_int.specs.declared.kinds.Value.{Value}
use Rattle.floyd_int.specs.declared.kinds.Value.TheVariants as v
use Rattle.floyd_int.specs.Kind.{modulo}
use Rattle.floyd_ctypes.specs.declared.ctype.CType.{CType}
use Rattle.floyd_ctypes.specs.Layout.{size}
use Rattle.floyd_ctypes.specs.Structs.{Structs}
use Rattle.floyd_clight_machine.specs.Integers.{number_of}
use Rattle.floyd_clight_machine.specs.Looking.{Look}
use Rattle.floyd_clight_machine.specs.Pointers as machine
use Rattle.floyd_clight_machine.specs.Pointers.{compare_pointers, equal_pointers, moved_down, moved_up, truth}
use Rattle.floyd_tree_sorts.specs.declared.heads.Head.TheVariants as h
use Rattle.floyd_tree_sorts.specs.declared.operators.Operator.TheVariants.{Eqv, Ltz, Lez, Nullval, Sub}
use Rattle.floyd_tree.specs.Plain.{Plain, Plains, At, Done, More, head_of, plains}
use Rattle.floyd_tree.specs.Types.{SizedType}
use Rattle.floyd_tree_values.specs.BuiltIns.{Env}
use Rattle.floyd_tree_values.specs.Data.{Datum, IsValue, Number, Val}
use Rattle.floyd_tree_values.specs.Means.{AllMean, Defs, Means, built_in}
use Rattle.floyd_tree_values.specs.Means as mean
use Rattle.floyd_tree_values.specs.Numbers.{one_if}
use Rattle.floyd_tree_values.specs.Values.{eqv, same_value, vint}
use Rattle.floyd_tree_values.proofs.OneValue.{applies, one_value}
use Rattle.floyd_truth.specs.Truth.{AllTrue, Truth}
use Rattle.floyd_clight_heap.specs.Heaplet.{Heaplet}
use Rattle.floyd_fieldpath.specs.Addresses.{size_term}
use Rattle.floyd_fieldpath.specs.Nested.{literal}
use Rattle.floyd_fieldpath.specs.Sums.{moved, two}
use Rattle.floyd_fieldpath.specs.Written.{written}
use Rattle.floyd_assert_trees.specs.declared.sep.Sep.{Sep}
use Rattle.floyd_assert_meaning.specs.Parts.{PartsHold}
use Rattle.floyd_assert_meaning.specs.Settings.{Setting}
use Rattle.floyd_arith.specs.Same.{same_term}
use Rattle.floyd_arith.proofs.SameLemmas.{same_term_true}
use Rattle.floyd_arith.proofs.Values.{Is}
use Rattle.floyd_symexpr_rows.specs.declared.needs.Needs.{Needs}
use Rattle.floyd_symexpr_rows.specs.declared.needs.Number as n
use Rattle.floyd_symexpr_rows.specs.Formulas.{is_pointer}
use Rattle.floyd_symexpr_rows.specs.Rows.{compared, no_base, number, range, row}
use Rattle.floyd_symexpr_rows.specs.Rows as rows
use Rattle.floyd_symexpr_pointers.specs.PointerRows.{base, compared_pointer, compared_within, equality, in_object, is_null, negated_if, offset, pointer_equality, pointer_moved, pointer_order, type_in, way, within}
use Rattle.floyd_symexpr_laws.specs.Laws.{Agrees}
use Rattle.floyd_symexpr_laws.proofs.MachineOperations.{number_for, value_for}
use Rattle.floyd_symexpr_laws.proofs.NumberRows.{truth_value}
use Rattle.floyd_symexpr_laws.proofs.SideTruths.{at_most_is, is_row, own_sides, range_is}
use Rattle.floyd_symexpr_laws.proofs.TermMeanings.{IsOperand, folded_is, is_written, literal_is, ok_parts, vint_is}
use Rattle.floyd_symexpr_pointer_laws.specs.Laws.{AllValid, IsValidIn, Sees}
use Rattle.floyd_symexpr_pointer_laws.proofs.Objects.{object_seen}
use Rattle.floyd_symexpr_pointer_laws.proofs.PointerOrders.{inside, is_moved, order_by, orders_agree, weakly_valid}
use Rattle.floyd_symexpr_pointer_laws.proofs.SizeTerms.{AreNumbers, moved_is, size_is, towards, way_is}

-- ---- equality

nulls : (look : Look) (m n : ℕ) → m ≡ 0 → n ≡ 0 → equal_pointers look (v.Vlong m) (v.Vlong n) ≡ Some (same_value (v.Vlong m) (v.Vlong n))
nulls look m n e f = rw (e, f)

null_first : (look : Look) (m b o : ℕ) → m ≡ 0 → look.is_valid b o ≡ true → equal_pointers look (v.Vlong m) (v.Vptr b o) ≡ Some false
null_first look m b o e f = rw (e, f)

null_second : (look : Look) (b o n : ℕ) → look.is_valid b o ≡ true → n ≡ 0 → equal_pointers look (v.Vptr b o) (v.Vlong n) ≡ Some false
null_second look b o n e f = rw (e, f)

pointers : (look : Look) (b o c q : ℕ) (t : Bool) → (b == c) ≡ t → look.is_valid b o ≡ true → look.is_valid c q ≡ true → equal_pointers look (v.Vptr b o) (v.Vptr c q) ≡ Some (same_value (v.Vptr b o) (v.Vptr c q))
pointers look b o c q true e f g = rw (e, f, g)
pointers look b o c q false e f g = rw (e, f, g)

pub equal_is : (look : Look) (x y : Value) → IsValidIn look x → IsValidIn look y → equal_pointers look x y ≡ Some (same_value x y)
equal_is look (v.Vlong m) (v.Vlong n) e f = nulls look m n e f
equal_is look (v.Vlong m) (v.Vptr b o) e f = null_first look m b o e f
equal_is look (v.Vptr b o) (v.Vlong n) e f = null_second look b o n e f
equal_is look (v.Vptr b o) (v.Vptr c q) e f = pointers look b o c q (b == c) refl e f
equal_is look v.Vundef y e f = absurd e
equal_is look (v.Vint m) y e f = absurd e
equal_is look (v.Vlong m) v.Vundef e f = absurd f
equal_is look (v.Vlong m) (v.Vint n) e f = absurd f
equal_is look (v.Vptr b o) v.Vundef e f = absurd f
equal_is look (v.Vptr b o) (v.Vint n) e f = absurd f

abbrev pub equality_op : Bool → IntOp
equality_op negated = if negated then c.Ne else c.Eq

-- the truth value, or the other one
abbrev pub negated_by : Bool → Bool → Bool
negated_by negated t = if negated then not t else t

compared_is : (look : Look) (negated t : Bool) (x y : Value) → equal_pointers look x y ≡ Some t → compare_pointers look (equality_op negated) x y ≡ Some (v.Vint (from_bool (negated_by negated t)))
compared_is look true t x y e = ap (λ o. truth (option_map not o)) e
compared_is look false t x y e = ap truth e

one_less : (t : Bool) → pos 1 -ℤ one_if t ≡ one_if (not t)
one_less true = refl
one_less false = refl

module _ (defs : Defs) (env : Env) (look : Look) where
  valid_first : (ts us : List Plain) → AllValid defs env look (ts ++ us) → AllValid defs env look ts
  valid_first [] us k = tt
  valid_first (t ∷ ts) us k = (k.0, valid_first ts us k.1)

  valid_second : (ts us : List Plain) → AllValid defs env look (ts ++ us) → AllValid defs env look us
  valid_second [] us k = k
  valid_second (t ∷ ts) us k = valid_second ts us k.1

  null_is : (t : Plain) (x : Value) → is_null (head_of t) ≡ true → Means defs env t (Val x) → IsValidIn look x
  null_is (At (h.Operator Nullval) kids) x e m =
      let p = applies refl m in
      let d : Val x ≡ Val (v.Vlong 0) = p.is in
      let same : x ≡ v.Vlong 0 = cc in
      subst (IsValidIn look) (sym same) refl
  null_is t x e m = absurd cc

  -- what is compared is null, or valid
  compared_valid : (t : Plain) (x : Value) → AllValid defs env look (compared_pointer t) → Means defs env t (Val x) → IsValidIn look x
  compared_valid t x k m = by (is_null (head_of t)) refl k
    where
      found : (y : Value) → Means defs env t (Val y) → IsValidIn look y → IsValidIn look x
      found y l valid =
          let d : Val x ≡ Val y = one_value defs m (Val y) l in
          let same : y ≡ x = cc in
          subst (IsValidIn look) same valid

      by : (b : Bool) → is_null (head_of t) ≡ b → AllValid defs env look (if b then [] else t ∷ []) → IsValidIn look x
      by true e k = null_is t x e m
      by false e k = found k.0.0 k.0.1 k.0.2

  eqv_is : (t u r : Plain) (x y : Value) → written (two Eqv t u) ≡ Ok r → Means defs env t (Val x) → Means defs env u (Val y) → Is defs env r (one_if (same_value x y))
  eqv_is t u r x y e m k =
      let w = is_written (two Eqv t u) r e in
      let d : Means defs env (two Eqv t u) (Number (eqv x y)) = built_in {env = env} {head = h.Operator Eqv} {kids = More t (More u Done)} {s = w.sort} {ds = Val x ∷ Val y ∷ []} refl w.sorted (mean.more m (mean.more k mean.none)) in
      record { datum = Number (eqv x y); means = subst (λ (a : Plain). Means defs env a (Number (eqv x y))) (sym w.same) d; number = refl }

  equality_is : (negated : Bool) (t u r : Plain) (x y : Value) → equality negated t u ≡ Ok r → Means defs env t (Val x) → Means defs env u (Val y) → Is defs env r (one_if (negated_by negated (same_value x y)))
  equality_is negated t u r x y e m k =
      let p = ok_parts (written (two Eqv t u)) (negated_if negated) r e in
      by negated p.2 (eqv_is t u p.0 x y p.1 m k)
    where
      by : (b : Bool) {a : Plain} → negated_if b a ≡ Ok r → Is defs env a (one_if (same_value x y)) → Is defs env r (one_if (negated_by b (same_value x y)))
      by true {a} f i = folded_is defs env Sub (literal (pos 1)) a r (pos 1) (one_if (same_value x y)) (one_if (not (same_value x y))) f (literal_is defs env (pos 1)) i (ap Some (one_less (same_value x y)))
      by false {a} f i = let same : a ≡ r = cc in subst (λ b. Is defs env b (one_if (same_value x y))) same i

  pub equality_row : (negated : Bool) (t u r : Plain) (x y : Value) (needs more : Needs) → Means defs env t (Val x) → Means defs env u (Val y) → pointer_equality negated t u needs ≡ Ok (r, more) → AllValid defs env look more.valid → Agrees defs env r (compare_pointers look (equality_op negated) x y)
  equality_row negated t u r x y needs more m k e valid =
      let asked : Needs = record needs { valid = needs.valid ++ compared_pointer t ++ compared_pointer u } in
      let p = ok_parts (equality negated t u) (λ a. row (rows.vint a) [] asked) (r, more) e in
      let w = is_row (rows.vint p.0) [] asked r more p.2 in
      let i = equality_is negated t u p.0 x y p.1 m k in
      let all = subst (AllValid defs env look) w.all_valid valid in
      let left = valid_second needs.valid (compared_pointer t) (valid_first (needs.valid ++ compared_pointer t) (compared_pointer u) all) in
      let right = valid_second (needs.valid ++ compared_pointer t) (compared_pointer u) all in
      let equal = equal_is look x y (compared_valid t x left m) (compared_valid u y right k) in
      let t = negated_by negated (same_value x y) in
      record {
        value = v.Vint (from_bool t);
        is = compared_is look negated (same_value x y) x y equal;
        means = subst (λ a. Means defs env r (Val a)) (truth_value t) (vint_is defs env p.0 r (one_if t) w.made i);
      }

-- ---- pointers that are moved

module _ (defs : Defs) (specs : List ℕ → Value → Bool) (env : Env) where
  one_val : {t : Plain} {d : Datum} → AllMean defs env (More t Done) (d ∷ []) → Means defs env t d
  one_val (mean.more m mean.none) = m

  -- a pointer's block and offset
  pointer_is : (t : Plain) (x : Value) → Truth defs specs env (is_pointer t) → Means defs env t (Val x) → (block : ℕ) × (place : ℕ) × (x ≡ v.Vptr block place)
  pointer_is t x (block, place, k) m =
      let d : Val x ≡ Val (v.Vptr block place) = one_value defs m (Val (v.Vptr block place)) (one_val k) in
      (block, place, cc)

  -- by so many bytes, up or down
  abbrev pub moved_by : Bool → Value → ℤ → Option Value
  moved_by down x z = if down then moved_down x z else moved_up x z

  moves : (down : Bool) (block place : ℕ) (z : ℤ) → moved_by down (v.Vptr block place) z ≡ Some (v.Vptr block (modulo (pos place +ℤ towards defs env down z) (2 ^ 64)))
  moves true block place z = refl
  moves false block place z = refl

  pub moved_row : (structs : Structs) (down : Bool) (element : CType) (p by r : Plain) (count : ℕ) (x y : Value) (k : IntKind) (i : n.Number) (needs more : Needs) → size structs element ≡ Some count → IsValue x → Means defs env p (Val x) → IsOperand defs env k y i → way structs down element i.term ≡ Ok by → pointer_moved p by i needs ≡ Ok (r, more) → AllTrue defs specs env more.sides → Agrees defs env r (option_and_then (moved_by down x) (option_and_then (machine.bytes_of structs element) (number_of k y)))
  moved_row structs down element p by r count x y k i needs more e fits m o f g all =
      let sides = is_pointer p ∷ range i.kind i.term in
      let w = is_row (moved p by) sides needs r more g in
      let own = own_sides defs specs env (moved p by) sides needs r more w all in
      let q = pointer_is p x own.0 m in
      let ranged = range_is defs specs env i.kind i.term o.number own.1 o.is in
      let read : number_of k y ≡ Some o.number = ap (number_of k) o.value ∙ ap (λ j. number_of j (value_for j o.number)) (sym o.kind) ∙ number_for i.kind o.number ranged in
      let bytes : option_and_then (machine.bytes_of structs element) (number_of k y) ≡ Some (pos count *ℤ o.number) = ap (option_and_then (machine.bytes_of structs element)) read ∙ ap (option_map (λ b. pos b *ℤ o.number)) e in
      let way_number = way_is defs env structs down element count i.term by o.number e o.is f in
      let z = pos count *ℤ o.number in
      let place = v.Vptr q.0 (modulo (pos q.1 +ℤ towards defs env down z) (2 ^ 64)) in
      record {
        value = place;
        is = ap (option_and_then (moved_by down x)) bytes ∙ ap (λ a. moved_by down a z) q.2 ∙ moves down q.0 q.1 z;
        means = moved_is defs env p by r q.0 q.1 (towards defs env down z) (low q.0 q.1 (subst IsValue q.2 fits)) (subst (λ a. Means defs env p (Val a)) q.2 m) way_number w.made;
      }
    where
      low : (block place : ℕ) → IsValue (v.Vptr block place) → place < 2 ^ 64
      low block place h = h

-- ---- order

-- neither `==` nor `!=`
abbrev pub IsOrderOp : IntOp → Type 0
IsOrderOp c.Eq = ⊥
IsOrderOp c.Ne = ⊥
IsOrderOp op = Unit {0}

module _ (defs : Defs) (env : Env) (a b : Plain) (x y : ℤ) (i : Is defs env a x) (j : Is defs env b y) where
  -- only an order has a term here
  order_is : (op : IntOp) (m : Plain) → IsOrderOp op → compared op a b ≡ Ok m → (t : Bool) × (order_by op x y ≡ Some t) × Is defs env m (one_if t)
  order_is c.Lt m o e = (int_lt x y, refl, folded_is defs env Ltz a b m x y (one_if (int_lt x y)) e i j refl)
  order_is c.Le m o e = (int_le x y, refl, folded_is defs env Lez a b m x y (one_if (int_le x y)) e i j refl)
  order_is c.Gt m o e = (int_lt y x, refl, folded_is defs env Ltz b a m y x (one_if (int_lt y x)) e j i refl)
  order_is c.Ge m o e = (int_le y x, refl, folded_is defs env Lez b a m y x (one_if (int_le y x)) e j i refl)
  order_is c.Eq m o e = absurd o
  order_is c.Ne m o e = absurd o
  order_is op m o e = absurd cc

module _ (S : Setting) (env : Env) (look : Look) where
  numbers_are : (ts : List Plain) (ns : List ℤ) → AllMean S.defs env (plains ts) (map Number ns) → AreNumbers S.defs env ts ns
  numbers_are [] [] k = tt
  numbers_are [] (n ∷ ns) k = elim k [ ]
  numbers_are (t ∷ ts) [] k = elim k [ ]
  numbers_are (t ∷ ts) (n ∷ ns) k = let p = parted k in (record { datum = Number n; means = p.0; number = refl }, numbers_are ts ns p.1)
    where
      parted : {t : Plain} {ts : Plains} {d : Datum} {ds : List Datum} → AllMean S.defs env (More t ts) (d ∷ ds) → Means S.defs env t d × AllMean S.defs env ts ds
      parted (mean.more m k) = (m, k)

  within_row : (op : IntOp) (bytes r a b : Plain) (block place count : ℕ) (x y : ℤ) (needs more : Needs) → IsOrderOp op → Is S.defs env bytes (pos count) → Is S.defs env a x → Is S.defs env b y → place + count < 2 ^ 64 → ((i : ℕ) → i < count → look.is_valid block (place + i) ≡ true) → compared_within op bytes a b needs ≡ Ok (r, more) → AllTrue S.defs S.has_spec env more.sides → Agrees S.defs env r (compare_pointers look op (v.Vptr block (modulo (pos place +ℤ x) (2 ^ 64))) (v.Vptr block (modulo (pos place +ℤ y) (2 ^ 64))))
  within_row op bytes r a b block place count x y needs more o size i j room valid e all =
      let p = ok_parts (compared op a b) (λ m. row (rows.vint m) (within bytes a b) needs) (r, more) e in
      let w = is_row (rows.vint p.0) (within bytes a b) needs r more p.2 in
      let own = own_sides S.defs S.has_spec env (rows.vint p.0) (within bytes a b) needs r more w all in
      let zero = literal_is S.defs env (pos 0) in
      let some : int_le (pos 1) (pos count) ≡ true = at_most_is S.defs S.has_spec env (literal (pos 1)) bytes (pos 1) (pos count) own.0 (literal_is S.defs env (pos 1)) size in
      let left = inside place count x room (at_most_is S.defs S.has_spec env (literal (pos 0)) a (pos 0) x own.1.0 zero i) (at_most_is S.defs S.has_spec env a bytes x (pos count) own.1.1.0 i size) in
      let right = inside place count y room (at_most_is S.defs S.has_spec env (literal (pos 0)) b (pos 0) y own.1.1.1.0 zero j) (at_most_is S.defs S.has_spec env b bytes y (pos count) own.1.1.1.1.0 j size) in
      let q = order_is S.defs env a b x y i j op p.0 o p.1 in
      let least : 1 ≤ count = omega (arith, ints, some) in
      let order : order_by op (pos left.number) (pos right.number) ≡ Some q.0 = ap₂ (order_by op) (sym left.is) (sym right.is) ∙ q.1 in
      record {
        value = v.Vint (from_bool q.0);
        is =
            ap₂ (λ m n. compare_pointers look op (v.Vptr block m) (v.Vptr block n)) left.place_is right.place_is
            ∙ orders_agree look op block place left.number right.number q.0 (weakly_valid look block place count left.number least left.within valid) (weakly_valid look block place count right.number least right.within valid) order;
        means = subst (λ u. Means S.defs env r (Val u)) (truth_value q.0) (vint_is S.defs env p.0 r (one_if q.0) w.made q.2);
      }

  pub order_row : (h : Heaplet) (parts : List Sep) (op : IntOp) (t u r : Plain) (x y : Value) (needs more : Needs) → IsOrderOp op → Sees look h → PartsHold S env parts h → Means S.defs env t (Val x) → Means S.defs env u (Val y) → pointer_order S.defs.structs parts op t u needs ≡ Ok (r, more) → AllTrue S.defs S.has_spec env more.sides → Agrees S.defs env r (compare_pointers look op x y)
  order_row h parts op t u r x y needs more o sees holds m k e all = by (same_term (base t) (base u)) refl e
    where
      in_type : (s : Option SizedType) → type_in parts (base t) ≡ s → base t ≡ base u → in_object S.defs.structs op (offset t) (offset u) needs s ≡ Ok (r, more) → Agrees S.defs env r (compare_pointers look op x y)
      in_type (Some ty) f same g =
          let seen = object_seen S env look parts (base t) ty h f sees holds in
          let p = ok_parts (size_term S.defs.structs ty.shape ty.sizes) (λ bytes. compared_within op bytes (offset t) (offset u) needs) (r, more) g in
          let size = size_is S.defs env S.defs.structs ty.shape ty.sizes seen.sizes (pos seen.count) p.0 (numbers_are ty.sizes seen.sizes seen.numbers) seen.size p.1 in
          let low : seen.offset < 2 ^ 64 = below seen.offset seen.count seen.room in
          let left = is_moved S.defs env t seen.block seen.offset x low seen.points m in
          let right = is_moved S.defs env u seen.block seen.offset y low (subst (λ b. Means S.defs env b (Val (v.Vptr seen.block seen.offset))) same seen.points) k in
          let found = within_row op p.0 r (offset t) (offset u) seen.block seen.offset seen.count left.by right.by needs more o size left.offset right.offset seen.room seen.valid p.2 all in
          subst (λ a. Agrees S.defs env r (compare_pointers look op a y)) (sym left.value) (subst (λ a. Agrees S.defs env r (compare_pointers look op (v.Vptr seen.block (modulo (pos seen.offset +ℤ left.by) (2 ^ 64))) a)) (sym right.value) found)
        where
          below : (a b : ℕ) → a + b < 2 ^ 64 → a < 2 ^ 64
          below a b l = omega arith
      in_type None f same g = absurd cc

      by : (t' : Bool) → same_term (base t) (base u) ≡ t' → ◌≡◌ {A = Result (Plain × Needs) No} (if t' then in_object S.defs.structs op (offset t) (offset u) needs (type_in parts (base t)) else Err no_base) (Ok (r, more)) → Agrees S.defs env r (compare_pointers look op x y)
      by true f g = in_type (type_in parts (base t)) refl (same_term_true (base t) (base u) f) g
      by false f g = absurd cc
