-- What an expression or its object needs stands behind what was needed before.
use Rattle.std.proofs.Common.{◌≡◌, List, [], Option, Some, None, Result, Ok, sym, ap, subst, ◌∙◌}
use Rattle.std.specs.Prelude.{◌&&◌, ◌++◌}
use Rattle.std.proofs.lemmas.List.{append-nil}
use Rattle.floyd_text.specs.declared.refusal.No.{No}
use Rattle.floyd_int.specs.declared.kinds.IntKind.{IntKind}
use Rattle.floyd_int.specs.declared.kinds.IntOp.{IntOp}
use Rattle.floyd_int.specs.declared.kinds.IntOp.TheVariants.{Add}
use Rattle.floyd_ctypes.specs.declared.ctype.CType.{CType, Void, Int, Pointer', Array', Struct, Function'}
use Rattle.floyd_ctypes.specs.Structs.{Structs}
use Rattle.floyd_clight.specs.declared.syntax.Expr.{Expr, Const, Temp, Var, Deref', AddrOf', Unary', Binary', Cast', Field', SizeOf, end_of-Expr, more_of-Expr}
use Rattle.floyd_clight.specs.Types.{type_of}
use Rattle.floyd_clight_machine.specs.Evaluation.{is_zero_constant}
use Rattle.floyd_clight_machine.specs.Types.{is_pointer}
use Rattle.floyd_tree.specs.Formulas.{PlainFormula}
use Rattle.floyd_tree.specs.Plain.{Plain}
use Rattle.floyd_assert_trees.specs.declared.assertion.Assertion.{Assertion}
use Rattle.floyd_fieldpath.specs.Addresses.{address}
use Rattle.floyd_fieldpath.specs.Nested.{sized_type}
use Rattle.floyd_fieldpath.specs.Written.{on_ok}
use Rattle.floyd_symexpr_rows.specs.declared.needs.Needs.{Needs}
use Rattle.floyd_symexpr_rows.specs.Rows.{row}
use Rattle.floyd_symexpr_laws.proofs.SideTruths.{is_row}
use Rattle.floyd_symexpr_laws.proofs.TermMeanings.{ok_parts}
use Rattle.floyd_symexpr_pointer_laws.specs.Laws.{Begins}
use Rattle.floyd_symexpr_paths.specs.declared.lvalue.Lvalue.{Lvalue}
use Rattle.floyd_symexpr_paths.specs.Places.{address_row, element, elements_at, field, first, object_value, path_of, pointed, root_sides, subscript_ranges, variable}
use Rattle.floyd_symexpr.specs.Expressions.{Placed, Reading, Valued, behind_type, binary_behind, binary_reading, cast_value, constant_of, element_at, elements, given, kind_of, no_place, number_first, object, operated_one, operated_two, pointer_first, read, rvalue, size_of, sum_of, temporary}
use Rattle.floyd_symexpr_soundness.proofs.Growing.{begins_itself, begins_on, of_null, of_operator, of_operators, same_needs}

-- what was answered, and what is needed
pub ok_pair : {A : Type 0} (a b : A) (n m : Needs) → ◌≡◌ {A = Result (A × Needs) No} (Ok (a, n)) (Ok (b, m)) → (a ≡ b) × (n ≡ m)
ok_pair {A} a b n m e =
    let same : ◌≡◌ {A = A × Needs} (a, n) (b, m) = cc in
    (ap (λ (p : A × Needs). p.0) same, ap (λ (p : A × Needs). p.1) same)

-- a value, and an object, that need more than was needed before
abbrev pub GrowsValue : Valued → Type 0
GrowsValue value = (t : Plain) (needs more : Needs) → value needs ≡ Ok (t, more) → Begins needs more

abbrev pub GrowsPlace : Placed → Type 0
GrowsPlace place = (l : Lvalue) (needs more : Needs) → place needs ≡ Ok (l, more) → Begins needs more

pub record Grows (r : Reading) : Type 0 where
  pub value : GrowsValue r.value
  pub place : GrowsPlace r.place
  pub behind : (to : CType) → GrowsPlace (r.behind to)

-- what is answered from an object needs no more
same_from : {A : Type 0} (place : Placed) (f : Lvalue → A) (a : A) (needs more : Needs) → GrowsPlace place → on_ok {B = A × Needs} (place needs) (λ l. Ok (f l.0, l.1)) ≡ Ok (a, more) → Begins needs more
same_from {A} place f a needs more g e =
    let p = ok_parts {B = A × Needs} (place needs) (λ l. Ok (f l.0, l.1)) (a, more) e in
    subst (Begins needs) (ok_pair (f p.0.0) a p.0.1 more p.2).1 (g p.0.0 needs p.0.1 p.1)

-- nor what is answered from a value
same_behind : {A : Type 0} (value : Valued) (f : Plain → A) (a : A) (needs more : Needs) → GrowsValue value → on_ok {B = A × Needs} (value needs) (λ v. Ok (f v.0, v.1)) ≡ Ok (a, more) → Begins needs more
same_behind {A} value f a needs more g e =
    let p = ok_parts {B = A × Needs} (value needs) (λ v. Ok (f v.0, v.1)) (a, more) e in
    subst (Begins needs) (ok_pair (f p.0.0) a p.0.1 more p.2).1 (g p.0.0 needs p.0.1 p.1)

none_grows : GrowsPlace no_place
none_grows l needs more e = absurd cc

behind_grows : (t : CType) (place : Placed) (value : Valued) → GrowsPlace place → GrowsValue value → (to : CType) → GrowsPlace (behind_type t place value to)
behind_grows (Array' p u n) place value g h to l needs more e = same_from place (λ k. element to first k) l needs more g e
behind_grows Void place value g h to l needs more e = same_behind value (λ v. pointed v to) l needs more h e
behind_grows (Int k) place value g h to l needs more e = same_behind value (λ v. pointed v to) l needs more h e
behind_grows (Pointer' p u) place value g h to l needs more e = same_behind value (λ v. pointed v to) l needs more h e
behind_grows (Struct tag) place value g h to l needs more e = same_behind value (λ v. pointed v to) l needs more h e
behind_grows (Function' shape ps p r) place value g h to l needs more e = same_behind value (λ v. pointed v to) l needs more h e

rvalue_grows : (t : CType) (value : Valued) → GrowsValue value → Grows (rvalue t value)
rvalue_grows t value g = record { value = g; place = none_grows; behind = behind_grows t no_place value none_grows g }

-- ---- objects

row_grows : (term : Result Plain No) (sides : List PlainFormula) (t : Plain) (needs more : Needs) → row term sides needs ≡ Ok (t, more) → Begins needs more
row_grows term sides t needs more e =
    let w = is_row term sides needs t more e in
    record { sides = sides; valid = []; all_sides = w.all_sides; all_valid = w.all_valid ∙ sym (append-nil needs.valid) }

pub address_grows : (structs : Structs) (l : Lvalue) (t : Plain) (needs more : Needs) → address_row structs l needs ≡ Ok (t, more) → Begins needs more
address_grows structs l t needs more e =
    row_grows (address structs (sized_type l.whole) (path_of l.form) l.root) (root_sides l ++ subscript_ranges l.subscripts) t needs more e

pub object_value_grows : (structs : Structs) (t : CType) (l : Lvalue) (u : Plain) (needs more : Needs) → object_value structs t l needs ≡ Ok (u, more) → Begins needs more
object_value_grows structs (Array' p t n) l u needs more e = address_grows structs l u needs more e
object_value_grows structs (Struct tag) l u needs more e = address_grows structs l u needs more e
object_value_grows structs (Function' shape ps p r) l u needs more e = address_grows structs l u needs more e
object_value_grows structs Void l u needs more e = absurd cc
object_value_grows structs (Int k) l u needs more e = absurd cc
object_value_grows structs (Pointer' p t) l u needs more e = absurd cc

-- the element at the number of a term
element_parts : (t : CType) (k : IntKind) (v : Plain) (l m : Lvalue) (needs more : Needs) → on_ok {B = Lvalue × Needs} (element_at t k v l) (λ n. Ok (n, needs)) ≡ Ok (m, more) → needs ≡ more
element_parts t k v l m needs more e =
    let p = ok_parts {B = Lvalue × Needs} (element_at t k v l) (λ n. Ok (n, needs)) (m, more) e in
    (ok_pair p.0 m needs more p.2).1

module _ (source : Assertion) (structs : Structs) where
  object_grows : (t : CType) (place : Placed) → GrowsPlace place → Grows (object source structs t place)
  object_grows t place g =
      let value : GrowsValue (object source structs t place).value = λ u needs more e.
      (let p = ok_parts (place needs) (λ l. object_value structs t l.0 l.1) (u, more) e in
      begins_on needs p.0.1 more (g p.0.0 needs p.0.1 p.1) (object_value_grows structs t p.0.0 u p.0.1 more p.2)) in
      record { value = value; place = g; behind = behind_grows t place (object source structs t place).value g value }

  -- ---- sums

  pub elements_grow : (T to : CType) (a : Reading) → Grows a → GrowsPlace (elements source structs T to a)
  elements_grow (Array' p u n) to a g l needs more e = g.place l needs more e
  elements_grow (Pointer' p u) to a g l needs more e = same_behind a.value (λ v. elements_at v to) l needs more g.value e
  elements_grow Void to a g l needs more e = absurd cc
  elements_grow (Int k) to a g l needs more e = absurd cc
  elements_grow (Struct tag) to a g l needs more e = absurd cc
  elements_grow (Function' shape ps p r) to a g l needs more e = absurd cc

  pointer_grows : (T : CType) (k : IntKind) (a b : Reading) → Grows a → Grows b → (to : CType) → GrowsPlace (pointer_first source structs T k a b to)
  pointer_grows T k a b g h to l needs more e =
      let p = ok_parts (elements source structs T to a needs) (λ m. on_ok (b.value m.1) (λ v. on_ok (element_at to k v.0 m.0) (λ i. Ok (i, v.1)))) (l, more) e in
      let q = ok_parts (b.value p.0.1) (λ v. on_ok (element_at to k v.0 p.0.0) (λ i. Ok (i, v.1))) (l, more) p.2 in
      subst (Begins needs) (element_parts to k q.0.0 p.0.0 l q.0.1 more q.2)
      (begins_on needs p.0.1 q.0.1 (elements_grow T to a g p.0.0 needs p.0.1 p.1) (h.value q.0.0 p.0.1 q.0.1 q.1))

  number_grows : (k : IntKind) (U : CType) (a b : Reading) → Grows a → Grows b → (to : CType) → GrowsPlace (number_first source structs k U a b to)
  number_grows k U a b g h to l needs more e =
      let p = ok_parts (a.value needs) (λ v. on_ok (elements source structs U to b v.1) (λ m. on_ok (element_at to k v.0 m.0) (λ i. Ok (i, m.1)))) (l, more) e in
      let q = ok_parts (elements source structs U to b p.0.1) (λ m. on_ok (element_at to k p.0.0 m.0) (λ i. Ok (i, m.1))) (l, more) p.2 in
      subst (Begins needs) (element_parts to k p.0.0 q.0.0 l q.0.1 more q.2)
      (begins_on needs p.0.1 q.0.1 (g.value p.0.0 needs p.0.1 p.1) (elements_grow U to b h q.0.0 p.0.1 q.0.1 q.1))

  sum_grows : (j k : Option IntKind) (T U : CType) (a b : Reading) → Grows a → Grows b → (to : CType) → GrowsPlace (sum_of source structs j k T U a b to)
  sum_grows (Some j) k T U a b g h to l needs more e = number_grows j U a b g h to l needs more e
  sum_grows None (Some k) T U a b g h to l needs more e = pointer_grows T k a b g h to l needs more e
  sum_grows None None T U a b g h to l needs more e = absurd cc

  binary_behind_grows : (op : IntOp) (T U own : CType) (a b : Reading) (value : Valued) → Grows a → Grows b → GrowsValue value → (to : CType) → GrowsPlace (binary_behind source structs op T U own a b value to)
  binary_behind_grows Add T U own a b value g h i to = sum_grows (kind_of T) (kind_of U) T U a b g h to
  binary_behind_grows op T U own a b value g h i to = behind_grows own no_place value none_grows i to

  binary_grows : (op : IntOp) (T U own : CType) (a b : Reading) → Grows a → Grows b → Grows (binary_reading source structs op T U own a b)
  binary_grows op T U own a b g h =
      let value : GrowsValue (binary_reading source structs op T U own a b).value = λ t needs more e.
      (let p = ok_parts (a.value needs) (λ v. on_ok (b.value v.1) (λ w. operated_two structs source.parts op T v.0 U w.0 w.1)) (t, more) e in
      let q = ok_parts (b.value p.0.1) (λ w. operated_two structs source.parts op T p.0.0 U w.0 w.1) (t, more) p.2 in
      begins_on needs q.0.1 more (begins_on needs p.0.1 q.0.1 (g.value p.0.0 needs p.0.1 p.1) (h.value q.0.0 p.0.1 q.0.1 q.1)) (of_operators source structs source.parts op T U p.0.0 q.0.0 t q.0.1 more q.2)) in
      record { value = value; place = none_grows; behind = binary_behind_grows op T U own a b (binary_reading source structs op T U own a b).value g h value }

  -- ---- expressions

  pub grows : (e : Expr) → Grows (read source structs e)
  grows (Const v t) = rvalue_grows t (given (constant_of t v)) (λ u needs more f. same_needs (constant_of t v) needs more u f)
  grows (Temp x t) = rvalue_grows t (given (temporary source.locals x)) (λ u needs more f. same_needs (temporary source.locals x) needs more u f)
  grows (Var binding x t) = object_grows t (λ needs. Ok (variable binding x t, needs)) (λ l needs more f. subst (Begins needs) (ok_pair (variable binding x t) l needs more f).1 (begins_itself needs))
  grows (Deref' p (more_of-Expr e end_of-Expr) t) = object_grows t ((read source structs e).behind t) ((grows e).behind t)
  grows (AddrOf' p (more_of-Expr e end_of-Expr) t) =
      rvalue_grows t (λ needs. on_ok ((read source structs e).place needs) (λ l. address_row structs l.0 l.1))
      (λ u needs more f.
      (let q = ok_parts ((read source structs e).place needs) (λ l. address_row structs l.0 l.1) (u, more) f in
      begins_on needs q.0.1 more ((grows e).place q.0.0 needs q.0.1 q.1) (address_grows structs q.0.0 u q.0.1 more q.2)))
  grows (Unary' op p (more_of-Expr e end_of-Expr) t) =
      rvalue_grows t (λ needs. on_ok ((read source structs e).value needs) (λ v. operated_one op (type_of e) v.0 v.1))
      (λ u needs more f.
      (let q = ok_parts ((read source structs e).value needs) (λ v. operated_one op (type_of e) v.0 v.1) (u, more) f in
      begins_on needs q.0.1 more ((grows e).value q.0.0 needs q.0.1 q.1) (of_operator source structs op (type_of e) q.0.0 u q.0.1 more q.2)))
  grows (Binary' op p (more_of-Expr a end_of-Expr) q (more_of-Expr b end_of-Expr) t) = binary_grows op (type_of a) (type_of b) t (read source structs a) (read source structs b) (grows a) (grows b)
  grows (Cast' p (more_of-Expr e end_of-Expr) t) =
      rvalue_grows t (cast_value source structs t e (read source structs e).value)
      (λ u needs more f. of_null source structs (is_pointer t && is_zero_constant e) (type_of e) t needs more u ((read source structs e).value needs) (λ v middle g. (grows e).value v needs middle g) f)
  grows (Field' p (more_of-Expr e end_of-Expr) x t) =
      object_grows t (λ needs. on_ok ((read source structs e).place needs) (λ l. Ok (field (type_of e) x l.0, l.1)))
      (λ l needs more f. same_from (read source structs e).place (λ k. field (type_of e) x k) l needs more (grows e).place f)
  grows (SizeOf of t) = rvalue_grows t (given (size_of structs (sized_type of))) (λ u needs more f. same_needs (size_of structs (sized_type of)) needs more u f)
