-- A test is decided where what it needs is so.
use Rattle.std.proofs.Common.{◌≡◌, ℕ, Bool, true, false, not, ℤ, pos, List, [], ◌∷◌, ◌++◌, Option, Some, None, Result, Ok, Err, refl, sym, ap, ap₂, subst, ◌∙◌, true≢false, if◌then◌else◌, arith, eqb-true}
use Rattle.std.specs.Prelude.{◌==◌, ◌&&◌, option_and_then, option_map}
use Rattle.std.specs.Int.{from_bool}
use Rattle.std.specs.Ordering.{int_eq}
use Rattle.std.proofs.lemmas.Bool.{eq-eqb}
use Rattle.std.proofs.lemmas.Int.{ints}
use Rattle.floyd_text.specs.declared.refusal.No.{No}
use Rattle.floyd_int.specs.declared.kinds.IntKind.TheVariants.{I32}
use Rattle.floyd_int.specs.declared.kinds.IntOp.{IntOp}
use Rattle.floyd_int.specs.declared.kinds.IntOp.TheVariants as c
use Rattle.floyd_int.specs.declared.kinds.Value.{Value}
use Rattle.floyd_int.specs.declared.kinds.Value.TheVariants as v
use Rattle.floyd_int.specs.Kind.{InRange, least}
use Rattle.floyd_int.specs.Operation.{is_comparison}
use Rattle.floyd_ctypes.specs.declared.ctype.CType.{CType, Void, Int, Pointer', Array', Struct, Function'}
use Rattle.floyd_ctypes.specs.Structs.{Structs}
use Rattle.floyd_clight.specs.declared.syntax.Expr.{Expr, Const, Temp, Var, Deref', AddrOf', Unary', Binary', Cast', Field', SizeOf, end_of-Expr, more_of-Expr}
use Rattle.floyd_clight.specs.declared.syntax.UnaryOp.TheVariants.{Neg, Complement, Not}
use Rattle.floyd_clight.specs.Types.{type_of}
use Rattle.floyd_clight_heap.specs.Heaplet.{Heaplet}
use Rattle.floyd_clight_machine.specs.Evaluation.{Look, Temps, eval_by, unary_value}
use Rattle.floyd_clight_machine.specs.Integers as integers
use Rattle.floyd_clight_machine.specs.Machine.{is_true}
use Rattle.floyd_clight_machine.specs.Pointers.{equal_pointers, truth}
use Rattle.floyd_clight_machine.specs.Looking.{is_weakly_valid}
use Rattle.floyd_clight_machine.specs.Types.{pointee}
use Rattle.floyd_clight_typing.specs.Expressions.{IsBinary, IsTyped, IsUnary, Names, int}
use Rattle.floyd_clight_typing.specs.Statements.{IsCondition, is_test}
use Rattle.floyd_tree_sorts.specs.declared.heads.Head.TheVariants as h
use Rattle.floyd_tree_sorts.specs.declared.operators.Operator.TheVariants.{Nullval}
use Rattle.floyd_tree_sorts.specs.declared.sorts.Sort.{Val as ValSort}
use Rattle.floyd_tree.specs.Formulas.{PlainFormula}
use Rattle.floyd_tree.specs.Plain.{Plain, Done, More}
use Rattle.floyd_tree.specs.Types.{SizedType}
use Rattle.floyd_tree_values.specs.BuiltIns.{Env}
use Rattle.floyd_tree_values.specs.Data.{Datum, Number, Val}
use Rattle.floyd_tree_values.specs.Means.{AllMean, Means, built_in}
use Rattle.floyd_tree_values.specs.Means as mean
use Rattle.floyd_tree_values.specs.Numbers.{one_if}
use Rattle.floyd_tree_values.proofs.OneValue.{one_value}
use Rattle.floyd_truth.specs.Truth.{AllTrue, Truth}
use Rattle.floyd_assert_trees.specs.declared.assertion.Assertion.{Assertion}
use Rattle.floyd_assert_meaning.specs.Settings.{Setting}
use Rattle.floyd_arith.specs.Same.{same_term}
use Rattle.floyd_fieldpath.specs.Addresses.{size_term}
use Rattle.floyd_fieldpath.specs.Nested.{literal}
use Rattle.floyd_fieldpath.specs.Written.{on_ok}
use Rattle.floyd_symexpr_rows.specs.declared.needs.Needs.{Needs}
use Rattle.floyd_symexpr_rows.specs.declared.needs.Number as n
use Rattle.floyd_symexpr_rows.specs.declared.needs.Operand.{Operand}
use Rattle.floyd_symexpr_rows.specs.declared.needs.Operand.TheVariants.{OfKind, Address}
use Rattle.floyd_symexpr_rows.specs.Formulas.{at_most}
use Rattle.floyd_symexpr_rows.specs.Rows.{compared, comparison, no_base, nothing_needed, null, number, range, ranges, row}
use Rattle.floyd_symexpr_rows.specs.Rows as rows
use Rattle.floyd_symexpr_pointers.specs.Operators.{address_of, binary, on_addresses, on_numbers, on_one_kind, operand, same_kind, unary}
use Rattle.floyd_symexpr_pointers.specs.PointerRows.{base, compared_within, in_object, offset, pointer_equality, pointer_order, type_in, within}
use Rattle.floyd_symexpr.specs.declared.evaluation.Evaluated.{Evaluated}
use Rattle.floyd_symexpr.specs.Expressions.{Reading, evaluate, operated_one, operated_two, read}
use Rattle.floyd_symexpr_laws.specs.Laws.{Agrees}
use Rattle.floyd_symexpr_laws.proofs.MachineOperations.{gives_zero_test}
use Rattle.floyd_symexpr_laws.proofs.NumberRows.{truth_value, where_same}
use Rattle.floyd_symexpr_laws.proofs.SideTruths.{all_true_first, all_true_second, is_row, own_sides}
use Rattle.floyd_symexpr_laws.proofs.TermMeanings.{ok_parts, vint_is}
use Rattle.floyd_symexpr_pointer_laws.specs.Laws.{AllValid, IsMet}
use Rattle.floyd_symexpr_pointer_laws.proofs.Operators.{unary_agrees}
use Rattle.floyd_symexpr_pointer_laws.proofs.PointerRows.{equality_row}
use Rattle.floyd_symexpr_soundness.specs.Laws.{Meets}
use Rattle.floyd_symexpr_soundness.proofs.Evaluating.{expressions_agree}
use Rattle.floyd_symexpr_soundness.proofs.Growing.{met_before, of_operator, of_operators}
use Rattle.floyd_symexpr_soundness.proofs.ReadingGrowth.{grows}
use Rattle.floyd_conditions.specs.declared.branches.Branches.{Branches}
use Rattle.floyd_conditions.specs.declared.branches.Condition.{Condition}
use Rattle.floyd_conditions.specs.Conditions as conditions
use Rattle.floyd_conditions.specs.Conditions.{branches_by, branches_of, condition, equality, exchanged, needs_of, nonzero, not_zero, of_numbers, of_operands, of_pointers, operand_of, swapped, test_needs, zero_needs}
use Rattle.floyd_condition_laws.specs.Laws.{IsDecided}
use Rattle.floyd_condition_laws.proofs.Branching.{Taken, equality_taken, numbers_compare, swapped_taken}
use Rattle.floyd_condition_laws.proofs.Shifting.{both, from_nothing, shifts}

-- ---- equal pointers

chosen : (b s t : Bool) → ◌≡◌ {A = Option Bool} (if b then Some s else None) (Some t) → s ≡ t
chosen true s t e = cc
chosen false s t e = absurd cc

both_true : (a b : Bool) → (a && b) ≡ true → (a ≡ true) × (b ≡ true)
both_true true b e = (refl, e)
both_true false b e = absurd cc

abbrev Decide : Bool → Value → Value → Type 0
Decide t x y = (t ≡ true → x ≡ y) × (t ≡ false → x ≡ y → ⊥)

nulls : (m k : ℕ) (b t : Bool) → (m == 0 && k == 0) ≡ b → ◌≡◌ {A = Option Bool} (if b then Some true else None) (Some t) → Decide t (v.Vlong m) (v.Vlong k)
nulls m k true t g e =
    let p = both_true (m == 0) (k == 0) g in
    (λ i. ap v.Vlong (eqb-true m 0 p.0 ∙ sym (eqb-true k 0 p.1)), λ i same. true≢false (chosen true true t e ∙ i))
nulls m k false t g e = absurd cc

apart : (t : Bool) (x y : Value) → false ≡ t → (x ≡ y → ⊥) → Decide t x y
apart t x y e differ = (λ i. absurd (true≢false (sym i ∙ sym e)), λ i same. differ same)

places : (b o d q : ℕ) (s r t : Bool) (valid : Bool) → (b == d) ≡ s → ◌≡◌ {A = Option Bool} (if s then (if r then Some (o == q) else None) else (if valid then Some false else None)) (Some t) → Decide t (v.Vptr b o) (v.Vptr d q)
places b o d q true r t valid g e =
    let is : (o == q) ≡ t = chosen r (o == q) t e in
    (λ i. ap₂ v.Vptr (eqb-true b d g) (eqb-true o q (is ∙ i)), λ i same. let j : o ≡ q = cc in true≢false (sym (eq-eqb o q j) ∙ is ∙ i))
places b o d q false r t valid g e = apart t (v.Vptr b o) (v.Vptr d q) (chosen valid false t e) (λ same. let j : b ≡ d = cc in true≢false (sym (eq-eqb b d j) ∙ g))

equal_decides : (look : Look) (x y : Value) (t : Bool) → equal_pointers look x y ≡ Some t → Decide t x y
equal_decides look (v.Vlong m) (v.Vlong k) t e = nulls m k (m == 0 && k == 0) t refl e
equal_decides look (v.Vlong m) (v.Vptr b o) t e = apart t (v.Vlong m) (v.Vptr b o) (chosen (m == 0 && is_weakly_valid look b o) false t e) (λ same. cc)
equal_decides look (v.Vptr b o) (v.Vlong k) t e = apart t (v.Vptr b o) (v.Vlong k) (chosen (k == 0 && is_weakly_valid look b o) false t e) (λ same. cc)
equal_decides look (v.Vptr b o) (v.Vptr d q) t e = places b o d q (b == d) (is_weakly_valid look b o && is_weakly_valid look d q) t (look.is_valid b o && look.is_valid d q) refl e
equal_decides look v.Vundef y t e = absurd cc
equal_decides look (v.Vint m) y t e = absurd cc
equal_decides look (v.Vlong m) v.Vundef t e = absurd cc
equal_decides look (v.Vlong m) (v.Vint k) t e = absurd cc
equal_decides look (v.Vptr b o) v.Vundef t e = absurd cc
equal_decides look (v.Vptr b o) (v.Vint k) t e = absurd cc

-- what a truth value is told by
told : (o : Option Bool) (z : Value) → truth o ≡ Some z → (t : Bool) × (o ≡ Some t) × (z ≡ v.Vint (from_bool t))
told (Some t) z e = let i : v.Vint (from_bool t) ≡ z = cc in (t, refl, sym i)
told None z e = absurd cc

told_not : (o : Option Bool) (z : Value) → truth (option_map not o) ≡ Some z → (t : Bool) × (o ≡ Some t) × (z ≡ v.Vint (from_bool (not t)))
told_not (Some t) z e = let i : v.Vint (from_bool (not t)) ≡ z = cc in (t, refl, sym i)
told_not None z e = absurd cc

-- ---- types

unary_int : (T t : CType) → IsUnary Not T t → t ≡ int
unary_int (Int k) t h = h.1
unary_int T t h = h.1

eq_int : (structs : Structs) (T U t : CType) → IsBinary structs c.Eq T U t → t ≡ int
eq_int structs (Int j) (Int k) t h = h.2
eq_int structs T U t h = h.is

ne_int : (structs : Structs) (T U t : CType) → IsBinary structs c.Ne T U t → t ≡ int
ne_int structs (Int j) (Int k) t h = h.2
ne_int structs T U t h = h.is

lt_int : (structs : Structs) (T U t : CType) → IsBinary structs c.Lt T U t → t ≡ int
lt_int structs (Int j) (Int k) t h = h.2
lt_int structs T U t h = h.is

le_int : (structs : Structs) (T U t : CType) → IsBinary structs c.Le T U t → t ≡ int
le_int structs (Int j) (Int k) t h = h.2
le_int structs T U t h = h.is

gt_int : (structs : Structs) (T U t : CType) → IsBinary structs c.Gt T U t → t ≡ int
gt_int structs (Int j) (Int k) t h = h.2
gt_int structs T U t h = h.is

ge_int : (structs : Structs) (T U t : CType) → IsBinary structs c.Ge T U t → t ≡ int
ge_int structs (Int j) (Int k) t h = h.2
ge_int structs T U t h = h.is

-- a comparison is an int
compared_int : (structs : Structs) (op : IntOp) (T U t : CType) → is_comparison op ≡ true → IsBinary structs op T U t → t ≡ int
compared_int structs c.Eq T U t o h = eq_int structs T U t h
compared_int structs c.Ne T U t o h = ne_int structs T U t h
compared_int structs c.Lt T U t o h = lt_int structs T U t h
compared_int structs c.Le T U t o h = le_int structs T U t h
compared_int structs c.Gt T U t o h = gt_int structs T U t h
compared_int structs c.Ge T U t o h = ge_int structs T U t h
compared_int structs op T U t o h = absurd cc

of_address : (d : Option CType) (t w : Plain) (u : CType) → address_of d t ≡ Ok (Address u w) → t ≡ w
of_address (Some s) t w u e = cc
of_address None t w u e = absurd cc

-- the term of an operand that is an address is its own
address_term : (T : CType) (t w : Plain) (u : CType) → operand T t ≡ Ok (Address u w) → t ≡ w
address_term (Int k) t w u e = (let p = ok_parts (number k t) (λ a. Ok (OfKind a)) (Address u w) e in absurd cc)
address_term Void t w u e = absurd cc
address_term (Pointer' p to) t w u e = of_address (pointee (Pointer' p to)) t w u e
address_term (Array' p to k) t w u e = of_address (pointee (Array' p to k)) t w u e
address_term (Struct tag) t w u e = absurd cc
address_term (Function' shape ps p to) t w u e = of_address (pointee (Function' shape ps p to)) t w u e

-- ---- truth values of the machine

in_range : (t : Bool) → InRange I32 (one_if t)
in_range true = record { from_least = omega (arith, ints); to_greatest = omega (arith, ints) }
in_range false = record { from_least = omega (arith, ints); to_greatest = omega (arith, ints) }

zero_test : (t : Bool) → int_eq (one_if t) (pos 0) ≡ not t
zero_test true = refl
zero_test false = refl

-- `!` of a truth value
not_truth : (look : Look) (t : Bool) → unary_value look Not int (v.Vint (from_bool t)) ≡ Some (v.Vint (from_bool (not t)))
not_truth look t =
    ap (integers.unary Not I32) (sym (truth_value t)) ∙ gives_zero_test I32 (one_if t) (in_range t) (in_range false)
    ∙ ap (λ b. Some (v.Vint (from_bool b))) (zero_test t)

true_is : (t : Bool) → is_true (v.Vint (from_bool t)) ≡ Some t
true_is true = refl
true_is false = refl

pub same_tests : (e : Expr) → is_test e ≡ true → conditions.is_test e ≡ true
same_tests (Unary' Not p e t) i = refl
same_tests (Unary' Neg p e t) i = absurd cc
same_tests (Unary' Complement p e t) i = absurd cc
same_tests (Binary' op p a q b t) i = i
same_tests (Const w t) i = absurd cc
same_tests (Temp x t) i = absurd cc
same_tests (Var binding x t) i = absurd cc
same_tests (Deref' p e t) i = absurd cc
same_tests (AddrOf' p e t) i = absurd cc
same_tests (Cast' p e t) i = absurd cc
same_tests (Field' p e x t) i = absurd cc
same_tests (SizeOf of t) i = absurd cc

module _ (S : Setting) (env : Env) (look : Look) where
  abbrev T : PlainFormula → Type 0
  T f = Truth S.defs S.has_spec env f

  abbrev All : List PlainFormula → Type 0
  All fs = AllTrue S.defs S.has_spec env fs

  -- ---- comparisons, by their terms

  -- the term of a comparison means a truth value, and the formula of that branch is true
  record Compared (r : Plain) (b : Branches) : Type 0 where
    pub met : Bool
    pub means : Means S.defs env r (Val (v.Vint (from_bool met)))
    pub holds : Taken S.defs S.has_spec env met b

  second : {a b : Plain} {d e : Datum} → AllMean S.defs env (More a (More b Done)) (d ∷ e ∷ []) → Means S.defs env b e
  second (mean.more m (mean.more k mean.none)) = k

  -- what is bounded is a number
  bounded : (a b : Plain) → T (at_most a b) → (z : ℤ) × Means S.defs env b (Number z)
  bounded a b (m, k, data', le) = (k, second data')

  of_terms : (op : IntOp) (a b k r : Plain) (x y : ℤ) (g : Branches) → is_comparison op ≡ true → Means S.defs env a (Number x) → Means S.defs env b (Number y) → compared op a b ≡ Ok k → rows.vint k ≡ Ok r → of_numbers op a b ≡ Ok g → Compared r g
  of_terms op a b k r x y g o i j e made f =
      let q = numbers_compare S.defs S.has_spec env a b k x y g i j op o e f in
      record { met = q.met; means = subst (λ u. Means S.defs env r (Val u)) (truth_value q.met) (vint_is S.defs env k r (one_if q.met) made q.is); holds = q.holds }

  of_comparison : (op : IntOp) (a b : n.Number) (needs more : Needs) (r : Plain) (g : Branches) → is_comparison op ≡ true → comparison op a b needs ≡ Ok (r, more) → All more.sides → of_numbers op a.term b.term ≡ Ok g → Compared r g
  of_comparison op a b needs more r g o e all f =
      let p = ok_parts (compared op a.term b.term) (λ z. row (rows.vint z) (ranges a b) needs) (r, more) e in
      let w = is_row (rows.vint p.0) (ranges a b) needs r more p.2 in
      let own = own_sides S.defs S.has_spec env (rows.vint p.0) (ranges a b) needs r more w all in
      let left = bounded (literal (least a.kind)) a.term (all_true_first S.defs S.has_spec env (range a.kind a.term) (range b.kind b.term) own).0 in
      let right = bounded (literal (least b.kind)) b.term (all_true_second S.defs S.has_spec env (range a.kind a.term) (range b.kind b.term) own).0 in
      of_terms op a.term b.term p.0 r left.0 right.0 g o left.1 right.1 p.1 w.made f

  one_kind : (op : IntOp) (a b : n.Number) (needs more : Needs) (r : Plain) → (if same_kind a.kind b.kind then on_one_kind op a b needs else Err rows.not_number) ≡ Ok (r, more) → on_one_kind op a b needs ≡ Ok (r, more)
  one_kind op a b needs more r e = (where_same (same_kind a.kind b.kind) (on_one_kind op a b needs) (r, more) e).1

  of_two_numbers : (op : IntOp) (a b : n.Number) (needs more : Needs) (r : Plain) (g : Branches) → is_comparison op ≡ true → on_numbers op a b needs ≡ Ok (r, more) → All more.sides → of_numbers op a.term b.term ≡ Ok g → Compared r g
  of_two_numbers c.Eq a b needs more r g o e all f = of_comparison c.Eq a b needs more r g o (one_kind c.Eq a b needs more r e) all f
  of_two_numbers c.Ne a b needs more r g o e all f = of_comparison c.Ne a b needs more r g o (one_kind c.Ne a b needs more r e) all f
  of_two_numbers c.Lt a b needs more r g o e all f = of_comparison c.Lt a b needs more r g o (one_kind c.Lt a b needs more r e) all f
  of_two_numbers c.Le a b needs more r g o e all f = of_comparison c.Le a b needs more r g o (one_kind c.Le a b needs more r e) all f
  of_two_numbers c.Gt a b needs more r g o e all f = of_comparison c.Gt a b needs more r g o (one_kind c.Gt a b needs more r e) all f
  of_two_numbers c.Ge a b needs more r g o e all f = of_comparison c.Ge a b needs more r g o (one_kind c.Ge a b needs more r e) all f
  of_two_numbers op a b needs more r g o e all f = absurd cc

  -- `==` of addresses
  of_equality : (t u r : Plain) (x y : Value) (needs more : Needs) (g : Branches) → Means S.defs env t (Val x) → Means S.defs env u (Val y) → pointer_equality false t u needs ≡ Ok (r, more) → AllValid S.defs env look more.valid → equality t u ≡ Ok g → Compared r g
  of_equality t u r x y needs more g m k e valid f =
      let a = equality_row S.defs env look false t u r x y needs more m k e valid in
      let q = told (equal_pointers look x y) a.value a.is in
      let d = equal_decides look x y q.0 q.1 in
      record {
        met = q.0;
        means = subst (λ w. Means S.defs env r (Val w)) q.2 a.means;
        holds = equality_taken S.defs S.has_spec env t u (Val x) (Val y) q.0 g m k (λ i. ap Val (d.0 i)) (λ i same. d.1 i (let j = same in cc)) f;
      }

  of_inequality : (t u r : Plain) (x y : Value) (needs more : Needs) (g : Branches) → Means S.defs env t (Val x) → Means S.defs env u (Val y) → pointer_equality true t u needs ≡ Ok (r, more) → AllValid S.defs env look more.valid → swapped (equality t u) ≡ Ok g → Compared r g
  of_inequality t u r x y needs more g m k e valid f =
      let a = equality_row S.defs env look true t u r x y needs more m k e valid in
      let q = told_not (equal_pointers look x y) a.value a.is in
      let d = equal_decides look x y q.0 q.1 in
      record {
        met = not q.0;
        means = subst (λ w. Means S.defs env r (Val w)) q.2 a.means;
        holds = swapped_taken S.defs S.has_spec env (equality t u) q.0 g
            (λ b i. equality_taken S.defs S.has_spec env t u (Val x) (Val y) q.0 b m k (λ s. ap Val (d.0 s)) (λ s same. d.1 s (let j = same in cc)) i) f;
      }

  -- an order of addresses, by their offsets
  in_one_object : (structs : Structs) (op : IntOp) (a b r : Plain) (needs more : Needs) (g : Branches) (o : Option SizedType) → is_comparison op ≡ true → in_object structs op a b needs o ≡ Ok (r, more) → All more.sides → of_numbers op a b ≡ Ok g → Compared r g
  in_one_object structs op a b r needs more g None o e all f = absurd cc
  in_one_object structs op a b r needs more g (Some t) o e all f =
      let p = ok_parts (size_term structs t.shape t.sizes) (λ bytes. compared_within op bytes a b needs) (r, more) e in
      let q = ok_parts (compared op a b) (λ z. row (rows.vint z) (within p.0 a b) needs) (r, more) p.2 in
      let w = is_row (rows.vint q.0) (within p.0 a b) needs r more q.2 in
      let own = own_sides S.defs S.has_spec env (rows.vint q.0) (within p.0 a b) needs r more w all in
      let left = bounded (literal (pos 0)) a own.1.0 in
      let right = bounded (literal (pos 0)) b own.1.1.1.0 in
      of_terms op a b q.0 r left.0 right.0 g o left.1 right.1 q.1 w.made f

  of_order : (source : Assertion) (op : IntOp) (t u r : Plain) (needs more : Needs) (g : Branches) → is_comparison op ≡ true → pointer_order S.defs.structs source.parts op t u needs ≡ Ok (r, more) → All more.sides → of_numbers op (offset t) (offset u) ≡ Ok g → Compared r g
  of_order source op t u r needs more g o e all f = by (same_term (base t) (base u)) e
    where
      by : (s : Bool) → ◌≡◌ {A = Result (Plain × Needs) No} (if s then in_object S.defs.structs op (offset t) (offset u) needs (type_in source.parts (base t)) else Err no_base) (Ok (r, more)) → Compared r g
      by true i = in_one_object S.defs.structs op (offset t) (offset u) r needs more g (type_in source.parts (base t)) o i all f
      by false i = absurd cc

  of_two_addresses : (source : Assertion) (op : IntOp) (t u r : Plain) (x y : Value) (needs more : Needs) (g : Branches) → is_comparison op ≡ true → Means S.defs env t (Val x) → Means S.defs env u (Val y) → on_addresses S.defs.structs source.parts op t u needs ≡ Ok (r, more) → IsMet S env look more → of_pointers op t u ≡ Ok g → Compared r g
  of_two_addresses source c.Eq t u r x y needs more g o m k e met f = of_equality t u r x y needs more g m k e met.valid f
  of_two_addresses source c.Ne t u r x y needs more g o m k e met f = of_inequality t u r x y needs more g m k e met.valid f
  of_two_addresses source c.Lt t u r x y needs more g o m k e met f = of_order source c.Lt t u r needs more g o e met.sides f
  of_two_addresses source c.Le t u r x y needs more g o m k e met f = of_order source c.Le t u r needs more g o e met.sides f
  of_two_addresses source c.Gt t u r x y needs more g o m k e met f = of_order source c.Gt t u r needs more g o e met.sides f
  of_two_addresses source c.Ge t u r x y needs more g o m k e met f = of_order source c.Ge t u r needs more g o e met.sides f
  of_two_addresses source op t u r x y needs more g o m k e met f = absurd cc

  of_two_operands : (source : Assertion) (op : IntOp) (X U : CType) (t u r : Plain) (x y : Value) (a b : Operand) (needs more : Needs) (g : Branches) → is_comparison op ≡ true → Means S.defs env t (Val x) → Means S.defs env u (Val y) → operand X t ≡ Ok a → operand U u ≡ Ok b →
      binary S.defs.structs source.parts op a b needs ≡ Ok (r, more) → IsMet S env look more → of_operands op a b ≡ Ok g → Compared r g
  of_two_operands source op X U t u r x y (OfKind a) (OfKind b) needs more g o m k i j e met f = of_two_numbers op a b needs more r g o e met.sides f
  of_two_operands source op X U t u r x y (OfKind a) (Address s w) needs more g o m k i j e met f = absurd cc
  of_two_operands source op X U t u r x y (Address s w) (OfKind b) needs more g o m k i j e met f = absurd cc
  of_two_operands source op X U t u r x y (Address s p) (Address d q) needs more g o m k i j e met f =
      of_two_addresses source op p q r x y needs more g o (subst (λ z. Means S.defs env z (Val x)) (address_term X t p s i) m) (subst (λ z. Means S.defs env z (Val y)) (address_term U u q d j) k) e met f

  -- ---- `!`, by its term

  -- the term of `!` means a truth value, and the formula of the other branch is true
  record Opposed (r : Plain) (b : Branches) : Type 0 where
    pub unmet : Bool
    pub means : Means S.defs env r (Val (v.Vint (from_bool unmet)))
    pub holds : T (if unmet then b.unmet else b.met)

  opposed : (d : Result Branches No) (r : Plain) (b : Branches) → ((a : Branches) → d ≡ Ok a → Compared r a) → swapped d ≡ Ok b → Opposed r b
  opposed d r b h e =
      let p = ok_parts d (λ a. Ok (exchanged a)) b e in
      let q = h p.0 p.1 in
      let same : ◌≡◌ {A = Branches} (exchanged p.0) b = let i = p.2 in cc in
      record { unmet = q.met; means = q.means; holds = subst (λ (w : Branches). T (if q.met then w.unmet else w.met)) same q.holds }

  null_means : Means S.defs env null (Val (v.Vlong 0))
  null_means = built_in {env = env} {head = h.Operator Nullval} {kids = Done} {s = ValSort} {ds = []} refl refl mean.none

  of_zero : (X : CType) (t r : Plain) (x : Value) (a : Operand) (needs more : Needs) (b : Branches) → Means S.defs env t (Val x) → operand X t ≡ Ok a → unary Not a needs ≡ Ok (r, more) → IsMet S env look more → not_zero a ≡ Ok b → Opposed r b
  of_zero X t r x (OfKind a) needs more b m i e met f =
      opposed (equality a.term (literal (pos 0))) r b (λ g j. of_comparison c.Eq a (record { kind = a.kind; term = literal (pos 0) }) needs more r g refl e met.sides j) f
  of_zero X t r x (Address s w) needs more b m i e met f =
      opposed (equality w null) r b (λ g j. of_equality w null r x (v.Vlong 0) needs more g (subst (λ z. Means S.defs env z (Val x)) (address_term X t w s i) m) null_means e met.valid j) f

  -- ---- what is needed behind

  valid_behind : (ts us : List Plain) → AllValid S.defs env look (ts ++ us) → AllValid S.defs env look us
  valid_behind [] us k = k
  valid_behind (t ∷ ts) us k = valid_behind ts us k.1

  met_behind : (a b : Needs) → IsMet S env look (both a b) → IsMet S env look b
  met_behind a b met = record { sides = all_true_second S.defs S.has_spec env a.sides b.sides met.sides; valid = valid_behind a.valid b.valid met.valid }

  -- ---- expressions

  module _ (temps : Temps) (source : Assertion) (h : Heaplet) (known : Names) (state : Meets S env look temps source h known) where
    abbrev structs : Structs
    structs = S.defs.structs

    abbrev R : Expr → Reading
    R e = read source structs e

    abbrev V : Expr → Option Value
    V e = eval_by structs look temps e

    agree : (e : Expr) (t : Plain) (needs : Needs) → IsTyped structs known e → (R e).value nothing_needed ≡ Ok (t, needs) → IsMet S env look needs → Agrees S.defs env t (V e)
    agree e t needs typed reads met =
        (expressions_agree S env look temps source h known state e (record { term = t; sides = needs.sides; valid = needs.valid }) typed
        (ap (λ (d : Result (Plain × Needs) No). on_ok {B = Evaluated} d (λ w. Ok (record { term = w.0; sides = w.1.sides; valid = w.1.valid }))) reads)
        (record { sides = met.sides; valid = met.valid })).agrees

    operand_is : (e : Expr) (t : Plain) (needs : Needs) → (R e).value nothing_needed ≡ Ok (t, needs) → operand_of source structs e ≡ operand (type_of e) t
    operand_is e t needs reads =
        ap (λ (d : Result (Plain × Needs) No). on_ok {B = Operand} (on_ok {B = Evaluated} d (λ w. Ok (record { term = w.0; sides = w.1.sides; valid = w.1.valid }))) (λ w. operand (type_of e) w.term)) reads

    record Tested (e : Expr) (b : Branches) : Type 0 where
      pub met : Bool
      pub is : V e ≡ Some (v.Vint (from_bool met))
      pub holds : Taken S.defs S.has_spec env met b

    -- `!` of the value is a truth value, and the formula of the other branch is true
    record Negated (e : Expr) (b : Branches) : Type 0 where
      pub unmet : Bool
      pub value : Value
      pub is : V e ≡ Some value
      pub zero' : unary_value look Not (type_of e) value ≡ Some (v.Vint (from_bool unmet))
      pub holds : T (if unmet then b.unmet else b.met)

    one_truth : (r : Plain) (x : Value) (t : Bool) → Means S.defs env r (Val x) → Means S.defs env r (Val (v.Vint (from_bool t))) → x ≡ v.Vint (from_bool t)
    one_truth r x t m k = let same : Val x ≡ Val (v.Vint (from_bool t)) = one_value S.defs m (Val (v.Vint (from_bool t))) k in cc

    module _ (op : IntOp) (a b : Expr) (p q : Unit {0}) (t : CType) where
      abbrev comparing : Expr
      comparing = Binary' op p (more_of-Expr a end_of-Expr) q (more_of-Expr b end_of-Expr) t

      comparison_tested : (r : Plain) (more : Needs) (g : Branches) → IsTyped structs known comparing → is_comparison op ≡ true → (R comparing).value nothing_needed ≡ Ok (r, more) → IsMet S env look more → conditions.compared source structs op a b ≡ Ok g → Tested comparing g
      comparison_tested r more g typed o reads met f =
          let own = agree comparing r more typed reads met in
          let i = ok_parts ((R a).value nothing_needed) (λ x. on_ok ((R b).value x.1) (λ w. operated_two structs source.parts op (type_of a) x.0 (type_of b) w.0 w.1)) (r, more) reads in
          let j = ok_parts ((R b).value i.0.1) (λ w. operated_two structs source.parts op (type_of a) i.0.0 (type_of b) w.0 w.1) (r, more) i.2 in
          let x = ok_parts (operand (type_of a) i.0.0) (λ w. on_ok (operand (type_of b) j.0.0) (λ y. binary structs source.parts op w y j.0.1)) (r, more) j.2 in
          let y = ok_parts (operand (type_of b) j.0.0) (λ w. binary structs source.parts op x.0 w j.0.1) (r, more) x.2 in
          let two = met_before S env look j.0.1 more (of_operators source structs source.parts op (type_of a) (type_of b) i.0.0 j.0.0 r j.0.1 more j.2) met in
          let one = met_before S env look i.0.1 j.0.1 ((grows source structs b).value j.0.0 i.0.1 j.0.1 j.1) two in
          let s = from_nothing (R b).value (shifts source structs b).value j.0.0 i.0.1 j.0.1 j.1 in
          let left = agree a i.0.0 i.0.1 typed.0 i.1 one in
          let right = agree b j.0.0 s.own typed.1 s.is (met_behind i.0.1 s.own (subst (IsMet S env look) s.all two)) in
          let first = operand_is a i.0.0 i.0.1 i.1 ∙ x.1 in
          let last = operand_is b j.0.0 s.own s.is ∙ y.1 in
          let both' : conditions.compared source structs op a b ≡ of_operands op x.0 y.0 =
          ap (λ (d : Result Operand No). on_ok {B = Branches} d (λ w. on_ok (operand_of source structs b) (of_operands op w))) first ∙ ap (λ (d : Result Operand No). on_ok {B = Branches} d (of_operands op x.0)) last in
          let w = of_two_operands source op (type_of a) (type_of b) i.0.0 j.0.0 r left.value right.value x.0 y.0 j.0.1 more g o left.means right.means x.1 y.1 y.2 met (sym both' ∙ f) in
          record { met = w.met; is = own.is ∙ ap Some (one_truth r own.value w.met own.means w.means); holds = w.holds }

    nonzero_negated : (e : Expr) (r : Plain) (more : Needs) (z : Plain) (after : Needs) (g : Branches) → IsTyped structs known e → (R e).value nothing_needed ≡ Ok (r, more) → operated_one Not (type_of e) r more ≡ Ok (z, after) → IsMet S env look after → nonzero source structs e ≡ Ok g → Negated e g
    nonzero_negated e r more z after g typed reads operated met f =
        let o = ok_parts (operand (type_of e) r) (λ x. unary Not x more) (z, after) operated in
        let before = met_before S env look more after (of_operator source structs Not (type_of e) r z more after operated) met in
        let own = agree e r more typed reads before in
        let u = unary_agrees S env look Not (type_of e) r z own.value o.0 more after own.means o.1 o.2 met in
        let is_zero : not_zero o.0 ≡ Ok g = sym (ap (λ (d : Result Operand No). on_ok {B = Branches} d not_zero) (operand_is e r more reads ∙ o.1)) ∙ f in
        let w = of_zero (type_of e) r z own.value o.0 more after g own.means o.1 o.2 met is_zero in
        record { unmet = w.unmet; value = own.value; is = own.is; zero' = u.is ∙ ap Some (one_truth z u.value w.unmet u.means w.means); holds = w.holds }

    flipped : (t : Bool) (b : Branches) → Taken S.defs S.has_spec env t b → T (if not t then b.unmet else b.met)
    flipped true b k = k
    flipped false b k = k

    -- and so of a test
    test_negated : (e : Expr) (b : Branches) → type_of e ≡ int → Tested e b → Negated e b
    test_negated e b i t = record {
      unmet = not t.met;
      value = v.Vint (from_bool t.met);
      is = t.is;
      zero' = subst (λ X. unary_value look Not X (v.Vint (from_bool t.met)) ≡ Some (v.Vint (from_bool (not t.met)))) (sym i) (not_truth look t.met);
      holds = flipped t.met b t.holds;
    }

    record Decides (e : Expr) : Type 0 where
      pub test : (r : Plain) (more : Needs) (b : Branches) → IsTyped structs known e → is_test e ≡ true → (R e).value nothing_needed ≡ Ok (r, more) → IsMet S env look more → branches_of source structs e ≡ Ok b → Tested e b
      pub negated : (r : Plain) (more : Needs) (z : Plain) (after : Needs) (b : Branches) → IsTyped structs known e → (R e).value nothing_needed ≡ Ok (r, more) → operated_one Not (type_of e) r more ≡ Ok (z, after) → IsMet S env look after → branches_of source structs e ≡ Ok b → Negated e b

    -- what is no test
    plain : (e : Expr) → is_test e ≡ false → branches_of source structs e ≡ nonzero source structs e → Decides e
    plain e f g = record {
      test = λ r more b typed i reads met is. absurd (true≢false (sym i ∙ f));
      negated = λ r more z after b typed reads operated met is. nonzero_negated e r more z after b typed reads operated met (sym g ∙ is);
    }

    module _ (e : Expr) (p : Unit {0}) (t : CType) (d : Decides e) where
      abbrev negation : Expr
      negation = Unary' Not p (more_of-Expr e end_of-Expr) t

      negation_tested : (r : Plain) (more : Needs) (b : Branches) → IsTyped structs known negation → (R negation).value nothing_needed ≡ Ok (r, more) → IsMet S env look more → branches_of source structs negation ≡ Ok b → Tested negation b
      negation_tested r more b typed reads met is =
          let i = ok_parts ((R e).value nothing_needed) (λ w. operated_one Not (type_of e) w.0 w.1) (r, more) reads in
          let j = ok_parts (branches_of source structs e) (λ a. Ok (exchanged a)) b is in
          let z = d.negated i.0.0 i.0.1 r more j.0 typed.0 i.1 i.2 met j.1 in
          let same : ◌≡◌ {A = Branches} (exchanged j.0) b = let k = j.2 in cc in
          record { met = z.unmet; is = ap (option_and_then (unary_value look Not (type_of e))) z.is ∙ z.zero'; holds = subst (λ (w : Branches). Taken S.defs S.has_spec env z.unmet w) same z.holds }

      negation_decides : Decides negation
      negation_decides = record {
        test = λ r more b typed i reads met is. negation_tested r more b typed reads met is;
        negated = λ r more z after b typed reads operated met is.
            test_negated negation b (unary_int (type_of e) t typed.1) (negation_tested r more b typed reads (met_before S env look more after (of_operator source structs Not t r z more after operated) met) is);
      }

    module _ (op : IntOp) (a b : Expr) (p q : Unit {0}) (t : CType) where
      abbrev whole : Expr
      whole = Binary' op p (more_of-Expr a end_of-Expr) q (more_of-Expr b end_of-Expr) t

      of_comparing : is_comparison op ≡ true → (g : Branches) → branches_of source structs whole ≡ Ok g → conditions.compared source structs op a b ≡ Ok g
      of_comparing o g is = subst (λ s. branches_by source structs (if s then Some (op, a, b) else None) whole ≡ Ok g) o is

      binary_decides : (s : Bool) → is_comparison op ≡ s → Decides whole
      binary_decides true o = record {
        test = λ r more g typed i reads met is. comparison_tested op a b p q t r more g typed o reads met (of_comparing o g is);
        negated = λ r more z after g typed reads operated met is.
            test_negated whole g (compared_int structs op (type_of a) (type_of b) t o typed.2)
            (comparison_tested op a b p q t r more g typed o reads (met_before S env look more after (of_operator source structs Not t r z more after operated) met) (of_comparing o g is));
      }
      binary_decides false o = plain whole o (ap (λ s. branches_by source structs (if s then Some (op, a, b) else None) whole) o)

    decides : (e : Expr) → Decides e
    decides (Const w t) = plain (Const w t) refl refl
    decides (Temp x t) = plain (Temp x t) refl refl
    decides (Var binding x t) = plain (Var binding x t) refl refl
    decides (Deref' p e t) = plain (Deref' p e t) refl refl
    decides (AddrOf' p e t) = plain (AddrOf' p e t) refl refl
    decides (Unary' Not p (more_of-Expr e end_of-Expr) t) = negation_decides e p t (decides e)
    decides (Unary' Neg p (more_of-Expr e end_of-Expr) t) = plain (Unary' Neg p (more_of-Expr e end_of-Expr) t) refl refl
    decides (Unary' Complement p (more_of-Expr e end_of-Expr) t) = plain (Unary' Complement p (more_of-Expr e end_of-Expr) t) refl refl
    decides (Binary' op p (more_of-Expr a end_of-Expr) q (more_of-Expr b end_of-Expr) t) = binary_decides op a b p q t (is_comparison op) refl
    decides (Cast' p e t) = plain (Cast' p e t) refl refl
    decides (Field' p e x t) = plain (Field' p e x t) refl refl
    decides (SizeOf of t) = plain (SizeOf of t) refl refl

    pub decided : (e : Expr) (given : Condition) → IsCondition structs known e → condition source structs e ≡ Ok given → IsMet S env look given.needs → IsDecided S env look temps e given.branches
    decided e given typed is met =
        let p = ok_parts (needs_of source structs e) (λ needs. on_ok (branches_of source structs e) (λ b. Ok (record { branches = b; needs = needs }))) given is in
        let q = ok_parts (branches_of source structs e) (λ b. Ok (record { branches = b; needs = p.0 })) given p.2 in
        let same : ◌≡◌ {A = Condition} (record { branches = q.0; needs = p.0 }) given = let i = q.2 in cc in
        let x = ok_parts (evaluate source structs e) (test_needs e) p.0 p.1 in
        let y = ok_parts {B = Evaluated} ((R e).value nothing_needed) (λ w. Ok (record { term = w.0; sides = w.1.sides; valid = w.1.valid })) x.0 x.1 in
        let evaluated : ◌≡◌ {A = Evaluated} (record { term = y.0.0; sides = y.0.1.sides; valid = y.0.1.valid }) x.0 = let i = y.2 in cc in
        let tested : ◌≡◌ {A = Result Needs No} (Ok (record { sides = x.0.sides; valid = x.0.valid })) (Ok p.0) =
        sym (ap (λ s. if s then Ok (record { sides = x.0.sides; valid = x.0.valid }) else zero_needs e x.0) (same_tests e typed.test)) ∙ x.2 in
        let needs : ◌≡◌ {A = Needs} (record { sides = x.0.sides; valid = x.0.valid }) p.0 = cc in
        let here : IsMet S env look p.0 = subst (λ (w : Condition). IsMet S env look w.needs) (sym same) met in
        let there = subst (λ (w : Evaluated). IsMet S env look (record { sides = w.sides; valid = w.valid })) (sym evaluated) (subst (IsMet S env look) (sym needs) here) in
        let t = (decides e).test y.0.0 y.0.1 q.0 typed.typed typed.test y.1 (record { sides = there.sides; valid = there.valid }) q.1 in
        record {
          value = v.Vint (from_bool t.met);
          is = t.is;
          met = t.met;
          tested = true_is t.met;
          holds = subst (λ (w : Condition). Taken S.defs S.has_spec env t.met w.branches) same t.holds;
        }
