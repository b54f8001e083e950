-- What an expression stands for under an assertion: a term, and what it needs. Operands go from left to right, and what an
-- expression needs stands behind what its operands need.
use Rattle.std.specs.Prelude.{ℕ, ℤ, ◌&&◌, List, [], ◌∷◌, Option, Some, None, Result, Ok, Err, bytes_eq, if◌then◌else◌}
use Rattle.floyd_text.specs.declared.code.Code.TheVariants.{UnknownTemp}
use Rattle.floyd_text.specs.declared.refusal.No.{No}
use Rattle.floyd_text.specs.declared.refusal.Shown.TheVariants.{Name}
use Rattle.floyd_int.specs.declared.kinds.IntKind.{IntKind}
use Rattle.floyd_int.specs.declared.kinds.IntOp.{IntOp}
use Rattle.floyd_int.specs.declared.kinds.IntOp.TheVariants.{Add}
use Rattle.floyd_int.specs.declared.kinds.Value.{Value}
use Rattle.floyd_ctypes.specs.declared.ctype.CType.{CType, Int, Pointer', Array'}
use Rattle.floyd_ctypes.specs.Structs.{Structs}
use Rattle.floyd_clight.specs.declared.syntax.Expr.{Expr, Const, Temp, Var, Deref', AddrOf', Unary', Binary', Cast', Field', SizeOf, end_of-Expr, more_of-Expr}
use Rattle.floyd_clight.specs.declared.syntax.UnaryOp.{UnaryOp}
use Rattle.floyd_clight.specs.Types.{type_of}
use Rattle.floyd_clight_machine.specs.Evaluation.{is_zero_constant}
use Rattle.floyd_clight_machine.specs.Integers.{number_of}
use Rattle.floyd_clight_machine.specs.Types.{is_pointer}
use Rattle.floyd_tree_sorts.specs.declared.operators.Operator.TheVariants.{Vlong}
use Rattle.floyd_tree.specs.Plain.{Plain}
use Rattle.floyd_tree.specs.Types.{SizedType}
use Rattle.floyd_assert_trees.specs.declared.assertion.Assertion.{Assertion}
use Rattle.floyd_assert_trees.specs.declared.assertion.Local.{Local}
use Rattle.floyd_assert_trees.specs.declared.sep.Sep.{Sep}
use Rattle.floyd_fieldpath.specs.Addresses.{size_term}
use Rattle.floyd_fieldpath.specs.Nested.{sized_type}
use Rattle.floyd_fieldpath.specs.Projections.{one}
use Rattle.floyd_fieldpath.specs.Written.{written, on_ok}
use Rattle.floyd_symexpr_rows.specs.declared.needs.Needs.{Needs}
use Rattle.floyd_symexpr_pointers.specs.Operators.{operand, unary, binary, cast}
use Rattle.floyd_symexpr_rows.specs.Rows.{constant, not_number, nothing_needed, null, number}
use Rattle.floyd_symexpr.specs.declared.evaluation.Evaluated.{Evaluated}
use Rattle.floyd_symexpr_paths.specs.declared.lvalue.Lvalue.{Lvalue}
use Rattle.floyd_symexpr_paths.specs.Places.{no_part, variable, pointed, elements_at, field, element, first, address_row, object_value}

-- What is said of an expression, behind what was needed before.
abbrev pub Valued : Type 0
Valued = Needs → Result (Plain × Needs) No

abbrev pub Placed : Type 0
Placed = Needs → Result (Lvalue × Needs) No

-- an expression: its value, the object that it stands for, and the object of a type to which its value leads
pub record Reading : Type 0 where
  pub value : Valued
  pub place : Placed
  pub behind : CType → Placed

-- a term that needs nothing more
abbrev pub given : Result Plain No → Valued
given term needs = on_ok term (λ t. Ok (t, needs))

-- the object that a pointer's value leads to
abbrev pub led : Valued → CType → Placed
led value t needs = on_ok (value needs) (λ v. Ok (pointed v.0 t, v.1))

-- `*a` of an array is `a[0]`
abbrev pub behind_type : CType → Placed → Valued → CType → Placed
behind_type (Array' p u n) place value t needs = on_ok (place needs) (λ l. Ok (element t first l.0, l.1))
behind_type u place value t needs = led value t needs

-- what stands for no object
abbrev pub no_place : Placed
no_place needs = Err no_part

-- an expression of that type which stands for no object
abbrev pub rvalue : CType → Valued → Reading
rvalue t value = record { value = value; place = no_place; behind = behind_type t no_place value }

-- Names and constants.

abbrev pub unknown_temp : List ℕ → No
unknown_temp x = record { code = UnknownTemp; shown = Name x }

abbrev pub temporary : List Local → List ℕ → Result Plain No
temporary [] x = Err (unknown_temp x)
temporary (l ∷ locals) x = if bytes_eq x l.name then Ok l.term else temporary locals x

abbrev pub number_constant : IntKind → Option ℤ → Result Plain No
number_constant k None = Err not_number
number_constant k (Some z) = constant k z

abbrev pub constant_of : CType → Value → Result Plain No
constant_of (Int k) v = number_constant k (number_of k v)
constant_of t v = Err not_number

-- `sizeof`
abbrev pub size_of : Structs → SizedType → Result Plain No
size_of structs t = on_ok (size_term structs t.shape t.sizes) (λ n. written (one Vlong n))

-- an operator on one operand, and on two: both are looked at before the row is chosen; and a cast from a type to another
abbrev pub operated_one : UnaryOp → CType → Plain → Needs → Result (Plain × Needs) No
operated_one op t v needs = on_ok (operand t v) (λ a. unary op a needs)

abbrev pub operated_two : Structs → List Sep → IntOp → CType → Plain → CType → Plain → Needs → Result (Plain × Needs) No
operated_two structs parts op t v u w needs = on_ok (operand t v) (λ a. on_ok (operand u w) (λ b. binary structs parts op a b needs))

abbrev pub operated_cast : CType → CType → Plain → Needs → Result (Plain × Needs) No
operated_cast from to v needs = on_ok (operand from v) (λ a. cast to a needs)

-- the kind of a type of integers
abbrev pub kind_of : CType → Option IntKind
kind_of (Int k) = Some k
kind_of t = None

-- the element at the subscript that is the number of a term
abbrev pub element_at : CType → IntKind → Plain → Lvalue → Result Lvalue No
element_at t k v l = on_ok (number k v) (λ i. Ok (element t i l))

module _ (source : Assertion) (structs : Structs) where
  abbrev pub object : CType → Placed → Reading
  object t place =
      let value : Valued = λ needs. on_ok (place needs) (λ l. object_value structs t l.0 l.1) in
      record { value = value; place = place; behind = behind_type t place value }

  -- Operators: all operands have their terms before one is looked at.

  abbrev pub unary_value : UnaryOp → CType → Valued → Valued
  unary_value op t value needs = on_ok (value needs) (λ v. operated_one op t v.0 v.1)

  abbrev pub binary_value : IntOp → CType → CType → Valued → Valued → Valued
  binary_value op t u left right needs = on_ok (left needs) (λ v. on_ok (right v.1) (λ w. operated_two structs source.parts op t v.0 u w.0 w.1))

  -- `*(p + i)` is `p[i]`: an element of an array, or of the objects to which a pointer leads

  abbrev pub elements : CType → CType → Reading → Placed
  elements (Array' p u n) t a needs = a.place needs
  elements (Pointer' p u) t a needs = on_ok (a.value needs) (λ v. Ok (elements_at v.0 t, v.1))
  elements u t a needs = Err not_number

  abbrev pub pointer_first : CType → IntKind → Reading → Reading → CType → Placed
  pointer_first u k a b t needs = on_ok (elements u t a needs) (λ l. on_ok (b.value l.1) (λ v. on_ok (element_at t k v.0 l.0) (λ m. Ok (m, v.1))))

  abbrev pub number_first : IntKind → CType → Reading → Reading → CType → Placed
  number_first k u a b t needs = on_ok (a.value needs) (λ v. on_ok (elements u t b v.1) (λ l. on_ok (element_at t k v.0 l.0) (λ m. Ok (m, l.1))))

  abbrev pub sum_of : Option IntKind → Option IntKind → CType → CType → Reading → Reading → CType → Placed
  sum_of (Some k) l t u a b to needs = number_first k u a b to needs
  sum_of None (Some k) t u a b to needs = pointer_first t k a b to needs
  sum_of None None t u a b to needs = Err not_number

  -- one of both is a number
  abbrev pub sum_behind : CType → CType → Reading → Reading → CType → Placed
  sum_behind t u a b to needs = sum_of (kind_of t) (kind_of u) t u a b to needs

  abbrev pub binary_behind : IntOp → CType → CType → CType → Reading → Reading → Valued → CType → Placed
  binary_behind Add t u own a b value = sum_behind t u a b
  binary_behind op t u own a b value = behind_type own no_place value

  abbrev pub binary_reading : IntOp → CType → CType → CType → Reading → Reading → Reading
  binary_reading op t u own a b =
      let value : Valued = binary_value op t u a.value b.value in
      record { value = value; place = no_place; behind = binary_behind op t u own a b value }

  -- the constant 0 cast to a pointer is null
  abbrev pub cast_value : CType → Expr → Valued → Valued
  cast_value t e value needs =
      if is_pointer t && is_zero_constant e then Ok (null, needs)
      else on_ok (value needs) (λ v. operated_cast (type_of e) t v.0 v.1)

  abbrev pub read : Expr → Reading
  read (Const v t) = rvalue t (given (constant_of t v))
  read (Temp x t) = rvalue t (given (temporary source.locals x))
  read (Var binding x t) = object t (λ needs. Ok (variable binding x t, needs))
  read (Deref' p (more_of-Expr e end_of-Expr) t) = object t ((read e).behind t)
  read (AddrOf' p (more_of-Expr e end_of-Expr) t) = rvalue t (λ needs. on_ok ((read e).place needs) (λ l. address_row structs l.0 l.1))
  read (Unary' op p (more_of-Expr e end_of-Expr) t) = rvalue t (unary_value op (type_of e) (read e).value)
  read (Binary' op p (more_of-Expr a end_of-Expr) q (more_of-Expr b end_of-Expr) t) = binary_reading op (type_of a) (type_of b) t (read a) (read b)
  read (Cast' p (more_of-Expr e end_of-Expr) t) = rvalue t (cast_value t e (read e).value)
  read (Field' p (more_of-Expr e end_of-Expr) x t) = object t (λ needs. on_ok ((read e).place needs) (λ l. Ok (field (type_of e) x l.0, l.1)))
  read (SizeOf of t) = rvalue t (given (size_of structs (sized_type of)))

  abbrev pub evaluate : Expr → Result Evaluated No
  evaluate e = on_ok ((read e).value nothing_needed) (λ v. Ok (record { term = v.0; sides = v.1.sides; valid = v.1.valid }))
