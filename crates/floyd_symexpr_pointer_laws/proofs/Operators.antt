-- Operators and casts, by the types of their operands.
use Rattle.std.proofs.Common.{◌≡◌, ℕ, true, false, ℤ, List, [], ◌∷◌, ◌++◌, map, Option, Some, None, Result, Ok, refl, sym, ap, ap₂, subst, ◌∙◌, inl, inr, if◌then◌else◌}
use Rattle.std.specs.Prelude.{◌⊎◌, IfSome, IsSome}
use Rattle.floyd_text.specs.declared.refusal.No.{No}
use Rattle.floyd_int.specs.declared.kinds.IntKind.{IntKind}
use Rattle.floyd_int.specs.declared.kinds.IntOp.{IntOp}
use Rattle.floyd_int.specs.declared.kinds.IntOp.TheVariants as c
use Rattle.floyd_int.specs.declared.kinds.Value.{Value}
use Rattle.floyd_int.specs.declared.kinds.Value.TheVariants as v
use Rattle.floyd_ctypes.specs.declared.ctype.CType.{CType, Void, Int, Pointer', Array', Struct, Function', more_of-CType, end_of-CType}
use Rattle.floyd_ctypes.specs.Has.{has_pointer}
use Rattle.floyd_ctypes.specs.Layout.{size}
use Rattle.floyd_ctypes.specs.Structs.{Structs}
use Rattle.floyd_clight.specs.declared.syntax.UnaryOp.{UnaryOp}
use Rattle.floyd_clight.specs.declared.syntax.UnaryOp.TheVariants.{Neg, Complement, Not}
use Rattle.floyd_clight_machine.specs.Evaluation.{Look, binary_value, cast_value, unary_value}
use Rattle.floyd_clight_machine.specs.Integers as integers
use Rattle.floyd_clight_machine.specs.Pointers as machine
use Rattle.floyd_clight_machine.specs.Types.{pointee}
use Rattle.floyd_clight_heap.specs.Heaplet.{Heaplet}
use Rattle.floyd_tree_sorts.specs.declared.heads.Head.TheVariants as h
use Rattle.floyd_tree_sorts.specs.declared.operators.Operator.TheVariants.{Nullval}
use Rattle.floyd_tree_sorts.specs.declared.sorts.Sort.{Val as ValSort}
use Rattle.floyd_tree.specs.Plain.{Plain, Plains, Done, More, plains}
use Rattle.floyd_tree_values.specs.BuiltIns.{Env}
use Rattle.floyd_tree_values.specs.Data.{Datum, IsValue, Number, Val}
use Rattle.floyd_tree_values.specs.Means.{AllMean, Means, built_in}
use Rattle.floyd_tree_values.specs.Means as mean
use Rattle.floyd_tree_values.proofs.OneValue.{no_data, one_value}
use Rattle.floyd_truth.specs.Truth.{Truth, numbers_then}
use Rattle.floyd_fieldpath.specs.Nested.{sized_type}
use Rattle.floyd_fieldpath.specs.Written.{on_ok}
use Rattle.floyd_assert_trees.specs.declared.sep.Sep.{Sep}
use Rattle.floyd_assert_meaning.specs.Parts.{PartsHold}
use Rattle.floyd_assert_meaning.specs.Settings.{Setting}
use Rattle.floyd_symexpr_rows.specs.declared.needs.Needs.{Needs}
use Rattle.floyd_symexpr_rows.specs.declared.needs.Number as n
use Rattle.floyd_symexpr_rows.specs.declared.needs.Operand.{Operand}
use Rattle.floyd_symexpr_rows.specs.declared.needs.Operand.TheVariants.{OfKind, Address}
use Rattle.floyd_symexpr_rows.specs.Formulas.{of_type}
use Rattle.floyd_symexpr_rows.specs.Rows.{null, number, pointer_cast}
use Rattle.floyd_symexpr_pointers.specs.Operators.{address_of, binary, cast, operand, unary, way_first, way_second}
use Rattle.floyd_symexpr_pointers.specs.Operators as operators
use Rattle.floyd_symexpr_pointers.specs.PointerRows.{pointer_moved, way}
use Rattle.floyd_symexpr_laws.specs.Laws.{Agrees}
use Rattle.floyd_symexpr_laws.proofs.NumberRows.{cast_number, one_number, two_numbers}
use Rattle.floyd_symexpr_laws.proofs.SideTruths.{is_row, own_sides}
use Rattle.floyd_symexpr_laws.proofs.TermMeanings.{ok_parts, operand_is}
use Rattle.floyd_symexpr_pointer_laws.specs.Laws.{IsMet, IsMovable, LeadsToSized, Sees}
use Rattle.floyd_symexpr_pointer_laws.proofs.PointerRows.{equality_row, moved_row, order_row}

-- ---- types of integers, and others

abbrev IsOther : CType → Type 0
IsOther (Int k) = ⊥
IsOther t = Unit {0}

int_or_other : (T : CType) → ((k : IntKind) × (T ≡ Int k)) ⊎ IsOther T
int_or_other (Int k) = inl (k, refl)
int_or_other T = inr tt

-- an operand that is an address
record IsAddress (T : CType) (t : Plain) (a : Operand) : Type 0 where
  leads_to : CType
  is : pointee T ≡ Some leads_to
  operand : a ≡ Address leads_to t

address_parts : (d : Option CType) (t : Plain) (a : Operand) → address_of d t ≡ Ok a → (e : CType) × (d ≡ Some e) × (a ≡ Address e t)
address_parts (Some e) t a f = (e, refl, cc)
address_parts None t a f = absurd cc

operand_other : (T : CType) (t : Plain) → IsOther T → operand T t ≡ address_of (pointee T) t
operand_other (Int k) t o = absurd o
operand_other T t o = refl

an_address : (T : CType) (t : Plain) (a : Operand) → IsOther T → operand T t ≡ Ok a → IsAddress T t a
an_address T t a o e =
    let p = address_parts (pointee T) t a (sym (operand_other T t o) ∙ e) in
    record { leads_to = p.0; is = p.1; operand = p.2 }

a_number : (k : IntKind) (t : Plain) (a : Operand) → operand (Int k) t ≡ Ok a → (b : n.Number) × (number k t ≡ Ok b) × (a ≡ OfKind b)
a_number k t a e = let p = ok_parts (number k t) (λ b. Ok (OfKind b)) a e in (p.0, p.1, cc)

sized_in : (structs : Structs) (T e : CType) → pointee T ≡ Some e → LeadsToSized structs T → (count : ℕ) × (size structs e ≡ Some count)
sized_in structs T e f k = found (size structs e) (subst (λ d. IfSome d (λ x. IsSome (size structs x))) f k)
  where
    found : (o : Option ℕ) → IsSome o → (count : ℕ) × (o ≡ Some count)
    found (Some count) s = (count, refl)
    found None s = absurd cc

movable_first : (structs : Structs) (T : CType) (k : IntKind) → IsOther T → IsMovable structs T (Int k) → LeadsToSized structs T
movable_first structs (Int j) k o m = absurd o
movable_first structs T k o m = m

-- ---- what the machine does, by types

second_other : (structs : Structs) (look : Look) (op : IntOp) (k : IntKind) (U : CType) (x y : Value) → IsOther U → binary_value structs look op (Int k) U x y ≡ machine.pointer_second structs op (integers.number_of k x) (pointee U) y
second_other structs look op k (Int l) x y o = absurd o
second_other structs look op k U x y o = refl

first_other : (structs : Structs) (look : Look) (op : IntOp) (T : CType) (k : IntKind) (x y : Value) → IsOther T → binary_value structs look op T (Int k) x y ≡ machine.pointer_first structs op (pointee T) x (integers.number_of k y)
first_other structs look op (Int l) k x y o = absurd o
first_other structs look op T k x y o = refl

both_other : (structs : Structs) (look : Look) (op : IntOp) (T U : CType) (x y : Value) → IsOther T → IsOther U → binary_value structs look op T U x y ≡ machine.on_addresses look op (pointee T) (pointee U) x y
both_other structs look op (Int k) U x y o p = absurd o
both_other structs look op T (Int k) x y o p = absurd p
both_other structs look op T U x y o p = refl

unary_other : (look : Look) (op : UnaryOp) (T : CType) (x : Value) → IsOther T → unary_value look op T x ≡ machine.pointer_unary look op (pointee T) x
unary_other look op (Int k) x o = absurd o
unary_other look op T x o = refl

cast_other : (T U : CType) (x : Value) → IsOther T → cast_value T U x ≡ machine.pointer_cast (pointee T) U x
cast_other (Int k) U x o = absurd o
cast_other T U x o = refl

module _ (S : Setting) (env : Env) (look : Look) where
  at_found : (r : Plain) (d e : Option Value) → d ≡ e → Agrees S.defs env r e → Agrees S.defs env r d
  at_found r d e f k = subst (Agrees S.defs env r) (sym f) k

  -- ---- two operands

  numbers : (parts : List Sep) (op : IntOp) (j k : IntKind) (t u r : Plain) (x y : Value) (a b : Operand) (needs more : Needs) → Means S.defs env t (Val x) → Means S.defs env u (Val y) → operand (Int j) t ≡ Ok a → operand (Int k) u ≡ Ok b → binary S.defs.structs parts op a b needs ≡ Ok (r, more) → IsMet S env look more → Agrees S.defs env r (binary_value S.defs.structs look op (Int j) (Int k) x y)
  numbers parts op j k t u r x y a b needs more m l e f g met =
      let p = a_number j t a e in
      let q = a_number k u b f in
      two_numbers S.defs S.has_spec env op j k t u r x y p.0 q.0 needs more m l p.1 q.1 (ap₂ (λ c d. binary S.defs.structs parts op c d needs) (sym p.2) (sym q.2) ∙ g) met.sides

  -- a number before a pointer may be added
  number_before : (op : IntOp) (k : IntKind) (e : CType) (t u r : Plain) (count : ℕ) (x y : Value) (a : n.Number) (needs more : Needs) → size S.defs.structs e ≡ Some count → IsValue y → Means S.defs env t (Val x) → Means S.defs env u (Val y) → number k t ≡ Ok a → on_ok (way_second S.defs.structs op e a.term) (λ by. pointer_moved u by a needs) ≡ Ok (r, more) → IsMet S env look more → Agrees S.defs env r (machine.pointer_second S.defs.structs op (integers.number_of k x) (Some e) y)
  number_before c.Add k e t u r count x y a needs more s fits m l f g met =
      let p = ok_parts (way S.defs.structs false e a.term) (λ by. pointer_moved u by a needs) (r, more) g in
      moved_row S.defs S.has_spec env S.defs.structs false e u p.0 r count y x k a needs more s fits l (operand_is S.defs env k t x a f m) p.1 p.2 met.sides
  number_before op k e t u r count x y a needs more s fits m l f g met = absurd cc

  -- a number behind a pointer may be subtracted too
  number_behind : (op : IntOp) (k : IntKind) (e : CType) (t u r : Plain) (count : ℕ) (x y : Value) (b : n.Number) (needs more : Needs) → size S.defs.structs e ≡ Some count → IsValue x → Means S.defs env t (Val x) → Means S.defs env u (Val y) → number k u ≡ Ok b → on_ok (way_first S.defs.structs op e b.term) (λ by. pointer_moved t by b needs) ≡ Ok (r, more) → IsMet S env look more → Agrees S.defs env r (machine.pointer_first S.defs.structs op (Some e) x (integers.number_of k y))
  number_behind c.Add k e t u r count x y b needs more s fits m l f g met =
      let p = ok_parts (way S.defs.structs false e b.term) (λ by. pointer_moved t by b needs) (r, more) g in
      moved_row S.defs S.has_spec env S.defs.structs false e t p.0 r count x y k b needs more s fits m (operand_is S.defs env k u y b f l) p.1 p.2 met.sides
  number_behind c.Sub k e t u r count x y b needs more s fits m l f g met =
      let p = ok_parts (way S.defs.structs true e b.term) (λ by. pointer_moved t by b needs) (r, more) g in
      moved_row S.defs S.has_spec env S.defs.structs true e t p.0 r count x y k b needs more s fits m (operand_is S.defs env k u y b f l) p.1 p.2 met.sides
  number_behind op k e t u r count x y b needs more s fits m l f g met = absurd cc

  addresses : (h : Heaplet) (parts : List Sep) (op : IntOp) (t u r : Plain) (x y : Value) (needs more : Needs) → Sees look h → PartsHold S env parts h → Means S.defs env t (Val x) → Means S.defs env u (Val y) → operators.on_addresses S.defs.structs parts op t u needs ≡ Ok (r, more) → IsMet S env look more → Agrees S.defs env r (machine.compare_pointers look op x y)
  addresses h parts c.Eq t u r x y needs more sees holds m l e met = equality_row S.defs env look false t u r x y needs more m l e met.valid
  addresses h parts c.Ne t u r x y needs more sees holds m l e met = equality_row S.defs env look true t u r x y needs more m l e met.valid
  addresses h parts op t u r x y needs more sees holds m l e met = order_row S env look h parts op t u r x y needs more tt sees holds m l e met.sides

  pub binary_agrees : (h : Heaplet) (parts : List Sep) (op : IntOp) (T U : CType) (t u r : Plain) (x y : Value) (a b : Operand) (needs more : Needs) → Sees look h → PartsHold S env parts h → IsMovable S.defs.structs T U → IsValue x → IsValue y → Means S.defs env t (Val x) → Means S.defs env u (Val y) → operand T t ≡ Ok a → operand U u ≡ Ok b → binary S.defs.structs parts op a b needs ≡ Ok (r, more) → IsMet S env look more → Agrees S.defs env r (binary_value S.defs.structs look op T U x y)
  binary_agrees h parts op T U t u r x y a b needs more sees holds movable fx fy m l e f g met =
      by (int_or_other T) (int_or_other U)
    where
      by : ((k : IntKind) × (T ≡ Int k)) ⊎ IsOther T → ((k : IntKind) × (U ≡ Int k)) ⊎ IsOther U → Agrees S.defs env r (binary_value S.defs.structs look op T U x y)
      by (inl (j, p)) (inl (k, q)) =
          at_found r (binary_value S.defs.structs look op T U x y) (binary_value S.defs.structs look op (Int j) (Int k) x y) (ap₂ (λ A B. binary_value S.defs.structs look op A B x y) p q)
          (numbers parts op j k t u r x y a b needs more m l (ap (λ A. operand A t) (sym p) ∙ e) (ap (λ A. operand A u) (sym q) ∙ f) g met)
      by (inl (k, p)) (inr o) =
          let d = a_number k t a (ap (λ A. operand A t) (sym p) ∙ e) in
          let w = an_address U u b o f in
          let n = sized_in S.defs.structs U w.leads_to w.is (subst (λ A. IsMovable S.defs.structs A U) p movable) in
          at_found r (binary_value S.defs.structs look op T U x y) (machine.pointer_second S.defs.structs op (integers.number_of k x) (Some w.leads_to) y)
          (ap (λ A. binary_value S.defs.structs look op A U x y) p ∙ second_other S.defs.structs look op k U x y o ∙ ap (λ A. machine.pointer_second S.defs.structs op (integers.number_of k x) A y) w.is)
          (number_before op k w.leads_to t u r n.0 x y d.0 needs more n.1 fy m l d.1 (ap₂ (λ A B. binary S.defs.structs parts op A B needs) (sym d.2) (sym w.operand) ∙ g) met)
      by (inr o) (inl (k, q)) =
          let w = an_address T t a o e in
          let d = a_number k u b (ap (λ A. operand A u) (sym q) ∙ f) in
          let n = sized_in S.defs.structs T w.leads_to w.is (movable_first S.defs.structs T k o (subst (IsMovable S.defs.structs T) q movable)) in
          at_found r (binary_value S.defs.structs look op T U x y) (machine.pointer_first S.defs.structs op (Some w.leads_to) x (integers.number_of k y))
          (ap (λ A. binary_value S.defs.structs look op T A x y) q ∙ first_other S.defs.structs look op T k x y o ∙ ap (λ A. machine.pointer_first S.defs.structs op A x (integers.number_of k y)) w.is)
          (number_behind op k w.leads_to t u r n.0 x y d.0 needs more n.1 fx m l d.1 (ap₂ (λ A B. binary S.defs.structs parts op A B needs) (sym w.operand) (sym d.2) ∙ g) met)
      by (inr o) (inr q) =
          let v = an_address T t a o e in
          let w = an_address U u b q f in
          at_found r (binary_value S.defs.structs look op T U x y) (machine.on_addresses look op (Some v.leads_to) (Some w.leads_to) x y)
          (both_other S.defs.structs look op T U x y o q ∙ ap₂ (λ A B. machine.on_addresses look op A B x y) v.is w.is)
          (addresses h parts op t u r x y needs more sees holds m l (ap₂ (λ A B. binary S.defs.structs parts op A B needs) (sym v.operand) (sym w.operand) ∙ g) met)

  -- ---- one operand

  null_means : Means S.defs env null (Val (v.Vlong 0))
  null_means = built_in {env = env} {head = h.Operator Nullval} {kids = Done} {s = ValSort} {ds = []} refl refl mean.none

  on_address : (op : UnaryOp) (e : CType) (t r : Plain) (x : Value) (needs more : Needs) → Means S.defs env t (Val x) → operators.on_address op t needs ≡ Ok (r, more) → IsMet S env look more → Agrees S.defs env r (machine.pointer_unary look op (Some e) x)
  on_address Not e t r x needs more m f met = equality_row S.defs env look false t null r x (v.Vlong 0) needs more m null_means f met.valid
  on_address Neg e t r x needs more m f met = absurd cc
  on_address Complement e t r x needs more m f met = absurd cc

  pub unary_agrees : (op : UnaryOp) (T : CType) (t r : Plain) (x : Value) (a : Operand) (needs more : Needs) → Means S.defs env t (Val x) → operand T t ≡ Ok a → unary op a needs ≡ Ok (r, more) → IsMet S env look more → Agrees S.defs env r (unary_value look op T x)
  unary_agrees op T t r x a needs more m e f met = by (int_or_other T)
    where
      by : ((k : IntKind) × (T ≡ Int k)) ⊎ IsOther T → Agrees S.defs env r (unary_value look op T x)
      by (inl (k, p)) =
          let d = a_number k t a (ap (λ A. operand A t) (sym p) ∙ e) in
          at_found r (unary_value look op T x) (unary_value look op (Int k) x) (ap (λ A. unary_value look op A x) p)
          (one_number S.defs S.has_spec env op k t r x d.0 needs more m d.1 (ap (λ A. unary op A needs) (sym d.2) ∙ f) met.sides)
      by (inr o) =
          let w = an_address T t a o e in
          at_found r (unary_value look op T x) (machine.pointer_unary look op (Some w.leads_to) x) (unary_other look op T x o ∙ ap (λ A. machine.pointer_unary look op A x) w.is)
          (on_address op w.leads_to t r x needs more m (ap (λ A. unary op A needs) (sym w.operand) ∙ f) met)

  -- ---- casts

  never_empty : (ns : List ℤ) (y : Value) → map Number ns ++ Val y ∷ [] ≡ [] → ⊥
  never_empty [] y e = cc
  never_empty (n ∷ ns) y e = cc

  last_value : (ts : List Plain) (ns : List ℤ) (t : Plain) (y : Value) → AllMean S.defs env (plains (ts ++ t ∷ [])) (numbers_then ns (Val y)) → Means S.defs env t (Val y)
  last_value [] [] t y k = (parted k).0
    where
      parted : {u : Plain} {us : Plains} {d : Datum} {ds : List Datum} → AllMean S.defs env (More u us) (d ∷ ds) → Means S.defs env u d × AllMean S.defs env us ds
      parted (mean.more m k) = (m, k)
  last_value [] (n ∷ ns) t y k = absurd (never_empty ns y (no_data (rest k)))
    where
      rest : {u : Plain} {us : Plains} {d : Datum} {ds : List Datum} → AllMean S.defs env (More u us) (d ∷ ds) → AllMean S.defs env us ds
      rest (mean.more m k) = k
  last_value (u ∷ us) [] t y k = absurd (some_left us (rest k))
    where
      rest : {u : Plain} {us : Plains} {d : Datum} {ds : List Datum} → AllMean S.defs env (More u us) (d ∷ ds) → AllMean S.defs env us ds
      rest (mean.more m k) = k

      none_given : {u : Plain} {us : Plains} → AllMean S.defs env (More u us) [] → ⊥
      none_given k = elim k [ ]

      some_left : (us : List Plain) → AllMean S.defs env (plains (us ++ t ∷ [])) [] → ⊥
      some_left [] k = none_given k
      some_left (w ∷ us) k = none_given k
  last_value (u ∷ us) (n ∷ ns) t y k = last_value us ns t y (rest k)
    where
      rest : {u : Plain} {us : Plains} {d : Datum} {ds : List Datum} → AllMean S.defs env (More u us) (d ∷ ds) → AllMean S.defs env us ds
      rest (mean.more m k) = k

  -- a pointer's type holds what the formula says of it
  of_pointer_type : (to : CType) (t : Plain) (x : Value) → Truth S.defs S.has_spec env (of_type (sized_type (Pointer' tt (more_of-CType to end_of-CType))) t) → Means S.defs env t (Val x) → has_pointer x ≡ true
  of_pointer_type to t x (ns, y, k, holds) m =
      let d : Val x ≡ Val y = one_value S.defs m (Val y) (last_value (sized_type (Pointer' tt (more_of-CType to end_of-CType))).sizes ns t y k) in
      let same : x ≡ y = cc in
      ap has_pointer same ∙ holds

  pointer_to_pointer : (e to : CType) (t r : Plain) (x : Value) (needs more : Needs) → Means S.defs env t (Val x) → pointer_cast (Pointer' tt (more_of-CType to end_of-CType)) t needs ≡ Ok (r, more) → IsMet S env look more → Agrees S.defs env r (machine.pointer_cast (Some e) (Pointer' tt (more_of-CType to end_of-CType)) x)
  pointer_to_pointer e to t r x needs more m f met =
      let sides = of_type (sized_type (Pointer' tt (more_of-CType to end_of-CType))) t ∷ [] in
      let term : Result Plain No = Ok t in
      let w = is_row term sides needs r more f in
      let own = own_sides S.defs S.has_spec env term sides needs r more w met.sides in
      let same : t ≡ r = let is = w.made in cc in
      record {
        value = x;
        is = ap (λ b. if b then Some x else None) (of_pointer_type to t x own.0 m);
        means = subst (λ u. Means S.defs env u (Val x)) same m;
      }

  to_pointer : (e to : CType) (t r : Plain) (x : Value) (needs more : Needs) → Means S.defs env t (Val x) → operators.cast_to_pointer to t needs ≡ Ok (r, more) → IsMet S env look more → Agrees S.defs env r (machine.pointer_cast (Some e) to x)
  to_pointer e (Pointer' p (more_of-CType to end_of-CType)) t r x needs more m f met = pointer_to_pointer e to t r x needs more m f met
  to_pointer e Void t r x needs more m f met = absurd cc
  to_pointer e (Int k) t r x needs more m f met = absurd cc
  to_pointer e (Array' p u k) t r x needs more m f met = absurd cc
  to_pointer e (Struct tag) t r x needs more m f met = absurd cc
  to_pointer e (Function' shape ps p u) t r x needs more m f met = absurd cc

  to_kind : (from : IntKind) (to : CType) (t r : Plain) (x : Value) (a : n.Number) (needs more : Needs) → Means S.defs env t (Val x) → number from t ≡ Ok a → operators.cast_to_kind to a needs ≡ Ok (r, more) → IsMet S env look more → Agrees S.defs env r (cast_value (Int from) to x)
  to_kind from (Int k) t r x a needs more m e f met = cast_number S.defs S.has_spec env from k t r x a needs more m e f met.sides
  to_kind from to t r x a needs more m e f met = absurd cc

  pub cast_agrees : (from to : CType) (t r : Plain) (x : Value) (a : Operand) (needs more : Needs) → Means S.defs env t (Val x) → operand from t ≡ Ok a → cast to a needs ≡ Ok (r, more) → IsMet S env look more → Agrees S.defs env r (cast_value from to x)
  cast_agrees from to t r x a needs more m e f met = by (int_or_other from)
    where
      by : ((k : IntKind) × (from ≡ Int k)) ⊎ IsOther from → Agrees S.defs env r (cast_value from to x)
      by (inl (k, p)) =
          let d = a_number k t a (ap (λ A. operand A t) (sym p) ∙ e) in
          at_found r (cast_value from to x) (cast_value (Int k) to x) (ap (λ A. cast_value A to x) p)
          (to_kind k to t r x d.0 needs more m d.1 (ap (λ A. cast to A needs) (sym d.2) ∙ f) met)
      by (inr o) =
          let w = an_address from t a o e in
          at_found r (cast_value from to x) (machine.pointer_cast (Some w.leads_to) to x) (cast_other from to x o ∙ ap (λ A. machine.pointer_cast A to x) w.is)
          (to_pointer w.leads_to to t r x needs more m (ap (λ A. cast to A needs) (sym w.operand) ∙ f) met)
