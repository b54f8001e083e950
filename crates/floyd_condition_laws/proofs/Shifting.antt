-- What an expression needs, and the term that it has, do not depend on what was needed before.
use Rattle.std.proofs.Common.{◌≡◌, Bool, true, false, pos, List, [], ◌∷◌, ◌++◌, Option, Some, None, Result, Ok, Err, refl, sym, ap, ap₂, ◌∙◌, append_assoc, append-nil, if◌then◌else◌}
use Rattle.std.specs.Prelude.{◌&&◌}
use Rattle.floyd_text.specs.declared.refusal.No.{No}
use Rattle.floyd_int.specs.declared.kinds.IntKind.{IntKind}
use Rattle.floyd_int.specs.declared.kinds.IntKind.TheVariants.{I8, U8, I16, U16, I32, U32, I64, U64}
use Rattle.floyd_int.specs.declared.kinds.IntOp.{IntOp}
use Rattle.floyd_int.specs.declared.kinds.IntOp.TheVariants as c
use Rattle.floyd_int.specs.Kind.{is_signed}
use Rattle.floyd_ctypes.specs.declared.ctype.CType.{CType, Void, Int, Pointer', Array', Struct, Function'}
use Rattle.floyd_ctypes.specs.Structs.{Structs}
use Rattle.floyd_clight.specs.declared.syntax.Expr.{Expr, Const, Temp, Var, Deref', AddrOf', Unary', Binary', Cast', Field', SizeOf, end_of-Expr, more_of-Expr}
use Rattle.floyd_clight.specs.declared.syntax.UnaryOp.{UnaryOp}
use Rattle.floyd_clight.specs.declared.syntax.UnaryOp.TheVariants.{Neg, Complement, Not}
use Rattle.floyd_clight.specs.Types.{type_of}
use Rattle.floyd_clight_machine.specs.Evaluation.{is_zero_constant}
use Rattle.floyd_clight_machine.specs.Types.{is_pointer}
use Rattle.floyd_tree_sorts.specs.declared.heads.Head.{Head}
use Rattle.floyd_tree_sorts.specs.declared.heads.Head.TheVariants.{Signed, Unsigned}
use Rattle.floyd_tree_sorts.specs.declared.heads.Head.TheVariants as h
use Rattle.floyd_tree_sorts.specs.declared.heads.Width.TheVariants.{Bits8, Bits16}
use Rattle.floyd_tree_sorts.specs.declared.operators.Operator.{Operator}
use Rattle.floyd_tree_sorts.specs.declared.operators.Operator.TheVariants.{Add, Sub, Mul, Quot, Rem, Band, Bor, Bxor, Bnot, Shl, Shr}
use Rattle.floyd_tree.specs.Formulas.{PlainFormula}
use Rattle.floyd_tree.specs.Plain.{Plain}
use Rattle.floyd_tree.specs.Types.{SizedType}
use Rattle.floyd_assert_trees.specs.declared.assertion.Assertion.{Assertion}
use Rattle.floyd_assert_trees.specs.declared.sep.Sep.{Sep}
use Rattle.floyd_arith.specs.Same.{same_term}
use Rattle.floyd_fieldpath.specs.Addresses.{address, size_term}
use Rattle.floyd_fieldpath.specs.Nested.{literal, sized_type}
use Rattle.floyd_fieldpath.specs.Sums as sums
use Rattle.floyd_fieldpath.specs.Sums.{plus}
use Rattle.floyd_fieldpath.specs.Written.{on_ok}
use Rattle.floyd_folding.specs.Folding.{folded, folded_one}
use Rattle.floyd_symexpr_rows.specs.declared.needs.Needs.{Needs}
use Rattle.floyd_symexpr_rows.specs.declared.needs.Number as n
use Rattle.floyd_symexpr_rows.specs.declared.needs.Operand.{Operand}
use Rattle.floyd_symexpr_rows.specs.declared.needs.Operand.TheVariants.{OfKind, Address}
use Rattle.floyd_symexpr_rows.specs.Formulas as says
use Rattle.floyd_symexpr_rows.specs.Formulas.{different, of_type, said, saying}
use Rattle.floyd_symexpr_rows.specs.Rows.{amount_fits, arithmetic, bitwise, compared, comparison, division, is_long, narrow, no_base, no_overflow, not_number, nothing_needed, null, number_cast, range, ranges, row, shift, shifted, value_of_kind, vint}
use Rattle.floyd_symexpr_pointers.specs.Operators.{binary, cast, cast_to_kind, cast_to_pointer, on_address, on_addresses, on_number, on_numbers, on_one_kind, operand, same_kind, unary, way_first, way_second}
use Rattle.floyd_symexpr_pointers.specs.PointerRows.{base, compared_pointer, compared_within, equality, in_object, offset, pointer_equality, pointer_moved, pointer_order, type_in, within}
use Rattle.floyd_symexpr_paths.specs.declared.lvalue.Lvalue.{Lvalue}
use Rattle.floyd_symexpr_paths.specs.Places.{address_row, element, elements_at, field, first, no_part, object_value, path_of, pointed, root_sides, subscript_ranges, variable}
use Rattle.floyd_symexpr.specs.Expressions.{Placed, Reading, Valued, behind_type, binary_behind, binary_reading, cast_value, constant_of, element_at, elements, given, kind_of, no_place, number_first, object, operated_cast, operated_one, operated_two, pointer_first, read, rvalue, size_of, sum_of, temporary}
use Rattle.floyd_symexpr_soundness.proofs.ReadingGrowth.{ok_pair}

-- ---- what is needed stands behind what was needed before

abbrev pub both : Needs → Needs → Needs
both n m = record { sides = n.sides ++ m.sides; valid = n.valid ++ m.valid }

abbrev pub after : {A : Type 0} → Needs → Result (A × Needs) No → Result (A × Needs) No
after n (Ok v) = Ok (v.0, both n v.1)
after n (Err why) = Err why

-- what is answered with more before is the answer with more before
abbrev pub Shifts : {A : Type 0} → (Needs → Result (A × Needs) No) → Type 0
Shifts f = (n m : Needs) → f (both n m) ≡ after n (f m)

alone : {A : Type 0} (a : A) → Shifts {A = A} (λ needs. Ok (a, needs))
alone a n m = refl

refused : {A : Type 0} (why : No) → Shifts {A = A} (λ needs. Err why)
refused why n m = refl

on : {A B : Type 0} (f : Needs → Result (A × Needs) No) (g : A → Needs → Result (B × Needs) No) → Shifts {A = A} f → ((a : A) → Shifts {A = B} (g a)) → Shifts {A = B} (λ needs. on_ok (f needs) (λ v. g v.0 v.1))
on {A} {B} f g s t n m = ap (λ (r : Result (A × Needs) No). on_ok {B = B × Needs} r (λ v. g v.0 v.1)) (s n m) ∙ by (f m)
  where
    by : (r : Result (A × Needs) No) → on_ok {B = B × Needs} (after n r) (λ v. g v.0 v.1) ≡ after n (on_ok {B = B × Needs} r (λ v. g v.0 v.1))
    by (Ok v) = t v.0 n v.1
    by (Err why) = refl

from : {A B : Type 0} (d : Result A No) (g : A → Needs → Result (B × Needs) No) → ((a : A) → Shifts {A = B} (g a)) → Shifts {A = B} (λ needs. on_ok d (λ a. g a needs))
from (Ok a) g t n m = t a n m
from (Err why) g t n m = refl

either : {A : Type 0} (b : Bool) (f g : Needs → Result (A × Needs) No) → Shifts {A = A} f → Shifts {A = A} g → Shifts {A = A} (λ needs. if b then f needs else g needs)
either true f g s t n m = s n m
either false f g s t n m = t n m

-- ---- rows

said_behind : (xs ys fs : List PlainFormula) → saying (xs ++ ys) fs ≡ on_ok (saying ys fs) (λ all. Ok (xs ++ all))
said_behind xs ys [] = refl
said_behind xs ys (f ∷ fs) = by (λ g. said_behind xs (ys ++ g ∷ []) fs) (said f)
  where
    by : ((g : PlainFormula) → saying (xs ++ (ys ++ g ∷ [])) fs ≡ on_ok (saying (ys ++ g ∷ []) fs) (λ all. Ok (xs ++ all))) → (r : Result PlainFormula No) →
        on_ok r (λ g. saying ((xs ++ ys) ++ g ∷ []) fs) ≡ on_ok (on_ok r (λ g. saying (ys ++ g ∷ []) fs)) (λ all. Ok (xs ++ all))
    by next (Ok g) = ap (λ zs. saying zs fs) (append_assoc xs ys (g ∷ [])) ∙ next g
    by next (Err why) = refl

row_shifts : (term : Result Plain No) (sides : List PlainFormula) → Shifts {A = Plain} (row term sides)
row_shifts (Err why) sides n m = refl
row_shifts (Ok t) sides n m =
    ap (λ (r : Result (List PlainFormula) No). on_ok {B = Plain × Needs} r (λ all. Ok (t, record { sides = all; valid = n.valid ++ m.valid }))) (said_behind n.sides m.sides sides) ∙ by (saying m.sides sides)
  where
    by : (r : Result (List PlainFormula) No) → on_ok {B = Plain × Needs} (on_ok r (λ all. Ok (n.sides ++ all))) (λ all. Ok (t, record { sides = all; valid = n.valid ++ m.valid })) ≡ after n (on_ok {B = Plain × Needs} r (λ all. Ok (t, record m { sides = all })))
    by (Ok all) = refl
    by (Err why) = refl

arithmetic_shifts : (operator : Operator) (a b : n.Number) → Shifts {A = Plain} (arithmetic operator a b)
arithmetic_shifts operator a b =
    from (folded operator a.term b.term) (λ k. row (value_of_kind a.kind k) (if is_signed a.kind then ranges a b ++ range a.kind k else []))
    (λ k. row_shifts (value_of_kind a.kind k) (if is_signed a.kind then ranges a b ++ range a.kind k else []))

division_shifts : (operator : Operator) (a b : n.Number) → Shifts {A = Plain} (division operator a b)
division_shifts operator a b =
    let sides = ranges a b ++ different b.term (literal (pos 0)) ∷ no_overflow a b in
    from (folded operator a.term b.term) (λ k. row (value_of_kind a.kind k) sides) (λ k. row_shifts (value_of_kind a.kind k) sides)

bitwise_shifts : (operator : Operator) (a b : n.Number) → Shifts {A = Plain} (bitwise operator a b)
bitwise_shifts operator a b = from (folded operator a.term b.term) (λ k. row (value_of_kind a.kind k) (ranges a b)) (λ k. row_shifts (value_of_kind a.kind k) (ranges a b))

shift_shifts : (operator : Operator) (a b : n.Number) → Shifts {A = Plain} (shift operator a b)
shift_shifts operator a b =
    from (folded operator a.term b.term) (λ k. shifted a b k)
    (λ k. from (plus b.term (literal (pos 1))) (λ more. row (value_of_kind a.kind k) (ranges a b ++ amount_fits a b more)) (λ more. row_shifts (value_of_kind a.kind k) (ranges a b ++ amount_fits a b more)))

comparison_shifts : (op : IntOp) (a b : n.Number) → Shifts {A = Plain} (comparison op a b)
comparison_shifts op a b = from (compared op a.term b.term) (λ k. row (vint k) (ranges a b)) (λ k. row_shifts (vint k) (ranges a b))

one_kind_shifts : (op : IntOp) (a b : n.Number) → Shifts {A = Plain} (on_one_kind op a b)
one_kind_shifts c.Add a b = arithmetic_shifts Add a b
one_kind_shifts c.Sub a b = arithmetic_shifts Sub a b
one_kind_shifts c.Mul a b = arithmetic_shifts Mul a b
one_kind_shifts c.Div a b = division_shifts Quot a b
one_kind_shifts c.Rem a b = division_shifts Rem a b
one_kind_shifts c.And a b = bitwise_shifts Band a b
one_kind_shifts c.Or a b = bitwise_shifts Bor a b
one_kind_shifts c.Xor a b = bitwise_shifts Bxor a b
one_kind_shifts op a b = comparison_shifts op a b

numbers_shift : (op : IntOp) (a b : n.Number) → Shifts {A = Plain} (on_numbers op a b)
numbers_shift c.Shl a b = shift_shifts Shl a b
numbers_shift c.Shr a b = shift_shifts Shr a b
numbers_shift op a b = either (same_kind a.kind b.kind) (on_one_kind op a b) (λ needs. Err not_number) (one_kind_shifts op a b) (refused not_number)

equality_shifts : (negated : Bool) (t u : Plain) → Shifts {A = Plain} (pointer_equality negated t u)
equality_shifts negated t u = from (equality negated t u) (λ k needs. row (vint k) [] (asked needs)) (λ k n m. ap (row (vint k) []) (asked_behind n m) ∙ row_shifts (vint k) [] n (asked m))
  where
    asked : Needs → Needs
    asked needs = record needs { valid = needs.valid ++ compared_pointer t ++ compared_pointer u }

    asked_behind : (n m : Needs) → asked (both n m) ≡ both n (asked m)
    asked_behind n m =
        ap (λ (vs : List Plain). record { sides = n.sides ++ m.sides; valid = vs })
        (ap (λ vs. vs ++ compared_pointer u) (append_assoc n.valid m.valid (compared_pointer t)) ∙ append_assoc n.valid (m.valid ++ compared_pointer t) (compared_pointer u))

object_shifts : (structs : Structs) (op : IntOp) (a b : Plain) (o : Option SizedType) → Shifts {A = Plain} (λ needs. in_object structs op a b needs o)
object_shifts structs op a b None = refused no_base
object_shifts structs op a b (Some t) =
    from (size_term structs t.shape t.sizes) (λ bytes. compared_within op bytes a b)
    (λ bytes. from (compared op a b) (λ k. row (vint k) (within bytes a b)) (λ k. row_shifts (vint k) (within bytes a b)))

order_shifts : (structs : Structs) (parts : List Sep) (op : IntOp) (t u : Plain) → Shifts {A = Plain} (pointer_order structs parts op t u)
order_shifts structs parts op t u =
    either (same_term (base t) (base u)) (λ needs. in_object structs op (offset t) (offset u) needs (type_in parts (base t))) (λ needs. Err no_base)
    (object_shifts structs op (offset t) (offset u) (type_in parts (base t))) (refused no_base)

addresses_shift : (structs : Structs) (parts : List Sep) (op : IntOp) (t u : Plain) → Shifts {A = Plain} (on_addresses structs parts op t u)
addresses_shift structs parts c.Eq t u = equality_shifts false t u
addresses_shift structs parts c.Ne t u = equality_shifts true t u
addresses_shift structs parts op t u = order_shifts structs parts op t u

moved_shifts : (d : Result Plain No) (p : Plain) (i : n.Number) → Shifts {A = Plain} (λ needs. on_ok d (λ by. pointer_moved p by i needs))
moved_shifts d p i =
    from d (λ by. pointer_moved p by i) (λ by. row_shifts (sums.moved p by) (says.is_pointer p ∷ range i.kind i.term))

binary_shifts : (structs : Structs) (parts : List Sep) (op : IntOp) (a b : Operand) → Shifts {A = Plain} (binary structs parts op a b)
binary_shifts structs parts op (OfKind a) (OfKind b) = numbers_shift op a b
binary_shifts structs parts op (OfKind i) (Address t p) = moved_shifts (way_second structs op t i.term) p i
binary_shifts structs parts op (Address t p) (OfKind i) = moved_shifts (way_first structs op t i.term) p i
binary_shifts structs parts op (Address t p) (Address u q) = addresses_shift structs parts op p q

number_shifts : (op : UnaryOp) (a : n.Number) → Shifts {A = Plain} (on_number op a)
number_shifts Neg a =
    from (folded Sub (literal (pos 0)) a.term) (λ k. row (value_of_kind a.kind k) (if is_signed a.kind then range a.kind a.term ++ range a.kind k else []))
    (λ k. row_shifts (value_of_kind a.kind k) (if is_signed a.kind then range a.kind a.term ++ range a.kind k else []))
number_shifts Complement a = from (folded_one (h.Operator Bnot) a.term) (λ k. row (value_of_kind a.kind k) (range a.kind a.term)) (λ k. row_shifts (value_of_kind a.kind k) (range a.kind a.term))
number_shifts Not a = comparison_shifts c.Eq a (record { kind = a.kind; term = literal (pos 0) })

address_shifts : (op : UnaryOp) (t : Plain) → Shifts {A = Plain} (on_address op t)
address_shifts Not t = equality_shifts false t null
address_shifts Neg t = refused not_number
address_shifts Complement t = refused not_number

unary_shifts : (op : UnaryOp) (a : Operand) → Shifts {A = Plain} (unary op a)
unary_shifts op (OfKind a) = number_shifts op a
unary_shifts op (Address t p) = address_shifts op p

narrow_shifts : (head : Head) (a : n.Number) → Shifts {A = Plain} (narrow head a)
narrow_shifts head a = from (folded_one head a.term) (λ k. row (vint k) []) (λ k. row_shifts (vint k) [])

cast_number_shifts : (to : IntKind) (a : n.Number) → Shifts {A = Plain} (number_cast to a)
cast_number_shifts I8 a = narrow_shifts (Signed Bits8) a
cast_number_shifts U8 a = narrow_shifts (Unsigned Bits8) a
cast_number_shifts I16 a = narrow_shifts (Signed Bits16) a
cast_number_shifts U16 a = narrow_shifts (Unsigned Bits16) a
cast_number_shifts I32 a = row_shifts (value_of_kind I32 a.term) []
cast_number_shifts U32 a = row_shifts (value_of_kind U32 a.term) []
cast_number_shifts I64 a = row_shifts (value_of_kind I64 a.term) (if is_long a.kind then [] else range a.kind a.term)
cast_number_shifts U64 a = row_shifts (value_of_kind U64 a.term) (if is_long a.kind then [] else range a.kind a.term)

to_kind_shifts : (to : CType) (a : n.Number) → Shifts {A = Plain} (cast_to_kind to a)
to_kind_shifts (Int k) a = cast_number_shifts k a
to_kind_shifts Void a = refused not_number
to_kind_shifts (Pointer' p t) a = refused not_number
to_kind_shifts (Array' p t k) a = refused not_number
to_kind_shifts (Struct tag) a = refused not_number
to_kind_shifts (Function' shape ps p t) a = refused not_number

to_pointer_shifts : (to : CType) (t : Plain) → Shifts {A = Plain} (cast_to_pointer to t)
to_pointer_shifts (Pointer' p u) t = row_shifts (Ok t) (of_type (sized_type (Pointer' p u)) t ∷ [])
to_pointer_shifts Void t = refused not_number
to_pointer_shifts (Int k) t = refused not_number
to_pointer_shifts (Array' p u k) t = refused not_number
to_pointer_shifts (Struct tag) t = refused not_number
to_pointer_shifts (Function' shape ps p u) t = refused not_number

cast_shifts : (to : CType) (a : Operand) → Shifts {A = Plain} (cast to a)
cast_shifts to (OfKind a) = to_kind_shifts to a
cast_shifts to (Address t p) = to_pointer_shifts to p

-- ---- objects

address_of_shifts : (structs : Structs) (l : Lvalue) → Shifts {A = Plain} (address_row structs l)
address_of_shifts structs l = row_shifts (address structs (sized_type l.whole) (path_of l.form) l.root) (root_sides l ++ subscript_ranges l.subscripts)

value_shifts : (structs : Structs) (t : CType) (l : Lvalue) → Shifts {A = Plain} (object_value structs t l)
value_shifts structs (Array' p t k) l = address_of_shifts structs l
value_shifts structs (Struct tag) l = address_of_shifts structs l
value_shifts structs (Function' shape ps p t) l = address_of_shifts structs l
value_shifts structs Void l = refused not_number
value_shifts structs (Int k) l = refused not_number
value_shifts structs (Pointer' p t) l = refused not_number

-- ---- expressions

pub record ReadingShifts (r : Reading) : Type 0 where
  pub value : Shifts {A = Plain} r.value
  pub place : Shifts {A = Lvalue} r.place
  pub behind : (to : CType) → Shifts {A = Lvalue} (r.behind to)

led_shifts : (value : Valued) (to : CType) → Shifts {A = Plain} value → Shifts {A = Lvalue} (λ needs. on_ok (value needs) (λ v. Ok (pointed v.0 to, v.1)))
led_shifts value to s = on value (λ v needs. Ok (pointed v to, needs)) s (λ v. alone (pointed v to))

behind_shifts : (t : CType) (place : Placed) (value : Valued) → Shifts {A = Lvalue} place → Shifts {A = Plain} value → (to : CType) → Shifts {A = Lvalue} (behind_type t place value to)
behind_shifts (Array' p u k) place value s v to = on place (λ l needs. Ok (element to first l, needs)) s (λ l. alone (element to first l))
behind_shifts Void place value s v to = led_shifts value to v
behind_shifts (Int k) place value s v to = led_shifts value to v
behind_shifts (Pointer' p u) place value s v to = led_shifts value to v
behind_shifts (Struct tag) place value s v to = led_shifts value to v
behind_shifts (Function' shape ps p u) place value s v to = led_shifts value to v

rvalue_shifts : (t : CType) (value : Valued) → Shifts {A = Plain} value → ReadingShifts (rvalue t value)
rvalue_shifts t value v = record { value = v; place = refused no_part; behind = behind_shifts t no_place value (refused no_part) v }

given_shifts : (d : Result Plain No) → Shifts {A = Plain} (given d)
given_shifts d = from d (λ t needs. Ok (t, needs)) (λ t. alone t)

element_shifts : (t : CType) (k : IntKind) (v : Plain) (l : Lvalue) → Shifts {A = Lvalue} (λ needs. on_ok (element_at t k v l) (λ m. Ok (m, needs)))
element_shifts t k v l = from (element_at t k v l) (λ m needs. Ok (m, needs)) (λ m. alone m)

module _ (source : Assertion) (structs : Structs) where
  of_object : (t : CType) (place : Placed) → Shifts {A = Lvalue} place → ReadingShifts (object source structs t place)
  of_object t place s =
      let value : Shifts {A = Plain} (object source structs t place).value = on place (λ l. object_value structs t l) s (λ l. value_shifts structs t l) in
      record { value = value; place = s; behind = behind_shifts t place (object source structs t place).value s value }

  one_shifts : (op : UnaryOp) (t : CType) (v : Plain) → Shifts {A = Plain} (operated_one op t v)
  one_shifts op t v = from (operand t v) (λ a. unary op a) (λ a. unary_shifts op a)

  two_shifts : (op : IntOp) (t u : CType) (v w : Plain) → Shifts {A = Plain} (operated_two structs source.parts op t v u w)
  two_shifts op t u v w =
      from (operand t v) (λ a needs. on_ok (operand u w) (λ b. binary structs source.parts op a b needs)) (λ a. from (operand u w) (λ b. binary structs source.parts op a b) (λ b. binary_shifts structs source.parts op a b))

  cast_operand_shifts : (t u : CType) (v : Plain) → Shifts {A = Plain} (operated_cast t u v)
  cast_operand_shifts t u v = from (operand t v) (λ a. cast u a) (λ a. cast_shifts u a)

  elements_shift : (t to : CType) (a : Reading) → ReadingShifts a → Shifts {A = Lvalue} (elements source structs t to a)
  elements_shift (Array' p u k) to a s = s.place
  elements_shift (Pointer' p u) to a s = on a.value (λ v needs. Ok (elements_at v to, needs)) s.value (λ v. alone (elements_at v to))
  elements_shift Void to a s = refused not_number
  elements_shift (Int k) to a s = refused not_number
  elements_shift (Struct tag) to a s = refused not_number
  elements_shift (Function' shape ps p u) to a s = refused not_number

  pointer_shifts : (t : CType) (k : IntKind) (a b : Reading) → ReadingShifts a → ReadingShifts b → (to : CType) → Shifts {A = Lvalue} (pointer_first source structs t k a b to)
  pointer_shifts t k a b s u to =
      on (elements source structs t to a) (λ l needs. on_ok (b.value needs) (λ v. on_ok (element_at to k v.0 l) (λ m. Ok (m, v.1)))) (elements_shift t to a s)
      (λ l. on b.value (λ v needs. on_ok (element_at to k v l) (λ m. Ok (m, needs))) u.value (λ v. element_shifts to k v l))

  number_first_shifts : (k : IntKind) (t : CType) (a b : Reading) → ReadingShifts a → ReadingShifts b → (to : CType) → Shifts {A = Lvalue} (number_first source structs k t a b to)
  number_first_shifts k t a b s u to =
      on a.value (λ v needs. on_ok (elements source structs t to b needs) (λ l. on_ok (element_at to k v l.0) (λ m. Ok (m, l.1)))) s.value
      (λ v. on (elements source structs t to b) (λ l needs. on_ok (element_at to k v l) (λ m. Ok (m, needs))) (elements_shift t to b u) (λ l. element_shifts to k v l))

  sum_shifts : (j k : Option IntKind) (t u : CType) (a b : Reading) → ReadingShifts a → ReadingShifts b → (to : CType) → Shifts {A = Lvalue} (sum_of source structs j k t u a b to)
  sum_shifts (Some j) k t u a b s v to = number_first_shifts j u a b s v to
  sum_shifts None (Some k) t u a b s v to = pointer_shifts t k a b s v to
  sum_shifts None None t u a b s v to = refused not_number

  binary_behind_shifts : (op : IntOp) (t u own : CType) (a b : Reading) (value : Valued) → ReadingShifts a → ReadingShifts b → Shifts {A = Plain} value → (to : CType) → Shifts {A = Lvalue} (binary_behind source structs op t u own a b value to)
  binary_behind_shifts c.Add t u own a b value s v w to = sum_shifts (kind_of t) (kind_of u) t u a b s v to
  binary_behind_shifts op t u own a b value s v w to = behind_shifts own no_place value (refused no_part) w to

  binary_reading_shifts : (op : IntOp) (t u own : CType) (a b : Reading) → ReadingShifts a → ReadingShifts b → ReadingShifts (binary_reading source structs op t u own a b)
  binary_reading_shifts op t u own a b s v =
      let value : Shifts {A = Plain} (binary_reading source structs op t u own a b).value =
      on a.value (λ x needs. on_ok (b.value needs) (λ y. operated_two structs source.parts op t x u y.0 y.1)) s.value (λ x. on b.value (λ y. operated_two structs source.parts op t x u y) v.value (λ y. two_shifts op t u x y)) in
      record { value = value; place = refused no_part; behind = binary_behind_shifts op t u own a b (binary_reading source structs op t u own a b).value s v value }

  pub shifts : (e : Expr) → ReadingShifts (read source structs e)
  shifts (Const v t) = rvalue_shifts t (given (constant_of t v)) (given_shifts (constant_of t v))
  shifts (Temp x t) = rvalue_shifts t (given (temporary source.locals x)) (given_shifts (temporary source.locals x))
  shifts (Var binding x t) = of_object t (λ needs. Ok (variable binding x t, needs)) (alone (variable binding x t))
  shifts (Deref' p (more_of-Expr e end_of-Expr) t) = of_object t ((read source structs e).behind t) ((shifts e).behind t)
  shifts (AddrOf' p (more_of-Expr e end_of-Expr) t) =
      rvalue_shifts t (λ needs. on_ok ((read source structs e).place needs) (λ l. address_row structs l.0 l.1)) (on (read source structs e).place (λ l. address_row structs l) (shifts e).place (λ l. address_of_shifts structs l))
  shifts (Unary' op p (more_of-Expr e end_of-Expr) t) =
      rvalue_shifts t (λ needs. on_ok ((read source structs e).value needs) (λ v. operated_one op (type_of e) v.0 v.1)) (on (read source structs e).value (λ v. operated_one op (type_of e) v) (shifts e).value (λ v. one_shifts op (type_of e) v))
  shifts (Binary' op p (more_of-Expr a end_of-Expr) q (more_of-Expr b end_of-Expr) t) = binary_reading_shifts op (type_of a) (type_of b) t (read source structs a) (read source structs b) (shifts a) (shifts b)
  shifts (Cast' p (more_of-Expr e end_of-Expr) t) =
      rvalue_shifts t (cast_value source structs t e (read source structs e).value)
      (either (is_pointer t && is_zero_constant e) (λ needs. Ok (null, needs)) (λ needs. on_ok ((read source structs e).value needs) (λ v. operated_cast (type_of e) t v.0 v.1)) (alone null)
      (on (read source structs e).value (λ v. operated_cast (type_of e) t v) (shifts e).value (λ v. cast_operand_shifts (type_of e) t v)))
  shifts (Field' p (more_of-Expr e end_of-Expr) x t) =
      of_object t (λ needs. on_ok ((read source structs e).place needs) (λ l. Ok (field (type_of e) x l.0, l.1))) (on (read source structs e).place (λ l needs. Ok (field (type_of e) x l, needs)) (shifts e).place (λ l. alone (field (type_of e) x l)))
  shifts (SizeOf of t) = rvalue_shifts t (given (size_of structs (sized_type of))) (given_shifts (size_of structs (sized_type of)))

-- ---- with nothing before

with_nothing : (needs : Needs) → both needs nothing_needed ≡ needs
with_nothing needs = ap₂ (λ (fs : List PlainFormula) (vs : List Plain). record { sides = fs; valid = vs }) (append-nil needs.sides) (append-nil needs.valid)

-- what is answered with nothing before
pub record FromNothing (A : Type 0) (f : Needs → Result (A × Needs) No) (a : A) (before more : Needs) : Type 0 where
  pub own : Needs
  pub is : f nothing_needed ≡ Ok (a, own)
  pub all : more ≡ both before own

pub from_nothing : {A : Type 0} (f : Needs → Result (A × Needs) No) → Shifts {A = A} f → (a : A) (before more : Needs) → f before ≡ Ok (a, more) → FromNothing A f a before more
from_nothing {A} f s a before more e = by (f nothing_needed) refl (sym (s before nothing_needed) ∙ ap f (with_nothing before) ∙ e)
  where
    by : (r : Result (A × Needs) No) → f nothing_needed ≡ r → after before r ≡ Ok (a, more) → FromNothing A f a before more
    by (Ok v) g k =
        let p = ok_pair v.0 a (both before v.1) more k in
        record { own = v.1; is = g ∙ ap (λ (x : A). Ok (x, v.1)) p.0; all = sym p.1 }
    by (Err why) g k = absurd cc
