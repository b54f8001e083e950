-- Which operands an operator takes, and the type of its result. None stands where they do not fit.
use Rattle.std.specs.Prelude.{ℕ, ◌==◌, Bool, true, false, ◌&&◌, ◌||◌, not, List, length, Option, Some, None, is_some, option_map, option_and_then, if◌then◌else◌}
use Rattle.floyd_int.specs.declared.kinds.IntKind.{IntKind}
use Rattle.floyd_int.specs.declared.kinds.IntOp.{IntOp}
use Rattle.floyd_int.specs.declared.kinds.IntOp.TheVariants.{Add, Sub, Mul, Div, Rem, And, Or, Xor, Shl, Shr, Eq, Ne, Lt, Le, Gt, Ge}
use Rattle.floyd_ctypes.specs.declared.ctype.CType.{CType, Int, Pointer', Function', more_of-CType, end_of-CType, items-the_row-CType}
use Rattle.floyd_ctypes.specs.Structs.{Structs}
use Rattle.floyd_cparse_trees.specs.declared.expressions.MemberOp.{MemberOp}
use Rattle.floyd_cparse_trees.specs.declared.expressions.MemberOp.TheVariants.{Dot, Arrow}
use Rattle.floyd_ctyping.specs.declared.operand.Operand.{Operand}
use Rattle.floyd_ctyping.specs.declared.operand.Standing.{Standing}
use Rattle.floyd_ctyping.specs.declared.operand.Standing.TheVariants.{Value, Zero, Object, Parameter}
use Rattle.floyd_elab_names.specs.Types.{promote, usual, pointer_to, int_type, same_type, is_void, is_function, is_scalar, decay, pointee, tag_of, has_size}

abbrev pub when : {A : Type 0} → Bool → A → Option A
when fits a = if fits then Some a else None

abbrev pub value_of_type : CType → Operand
value_of_type t = record { ctype = t; standing = Value }

abbrev pub object_of_type : CType → Operand
object_of_type t = record { ctype = t; standing = Object }

abbrev pub is_zero : Standing → Bool
is_zero Value = false
is_zero Zero = true
is_zero Object = false
is_zero Parameter = false

abbrev pub is_object : Standing → Bool
is_object Value = false
is_object Zero = false
is_object Object = true
is_object Parameter = true

abbrev pub is_parameter : Standing → Bool
is_parameter Value = false
is_parameter Zero = false
is_parameter Object = false
is_parameter Parameter = true

-- the type of an operand's value
abbrev pub value_type : Operand → CType
value_type a = decay a.ctype

-- a test is of a number or a pointer
abbrev pub is_test : Operand → Bool
is_test a = is_scalar (value_type a)

-- `-`, `+` and `~` take a number and promote it
abbrev pub promoted_type : CType → Option CType
promoted_type (Int k) = Some (Int (promote k))
promoted_type t = None

abbrev pub sign_type : Operand → Option CType
sign_type a = promoted_type (value_type a)

-- `!` is a test
abbrev pub not_type : Operand → Option CType
not_type a = when (is_test a) int_type

-- `*` leads to anything but void
abbrev pub unless_void : CType → Option CType
unless_void t = when (not (is_void t)) t

abbrev pub dereference_type : Operand → Option CType
dereference_type a = option_and_then unless_void (pointee (value_type a))

-- `&` takes an object or a function
abbrev pub address_type : Operand → Option CType
address_type a = when (is_object a.standing || is_function a.ctype) (pointer_to a.ctype)

-- Two numbers have their usual kind.
abbrev pub number_of : CType → CType → Option CType
number_of (Int j) (Int k) = Some (Int (usual j k))
number_of t u = None

-- A shift has the promoted type of its left operand.
abbrev pub shift_of : CType → CType → Option CType
shift_of (Int j) (Int k) = Some (Int (promote j))
shift_of t u = None

-- A number may be added to a pointer, on either side, and be subtracted from one. What is pointed to has a size.
abbrev pub pointer_plus : Structs → CType → CType → Option CType
pointer_plus structs t (Int k) = when (has_size structs t) (pointer_to t)
pointer_plus structs t u = None

abbrev pub number_plus : Structs → IntKind → CType → Option CType
number_plus structs j (Int k) = Some (Int (usual j k))
number_plus structs j (Pointer' q (more_of-CType u end_of-CType)) = when (has_size structs u) (pointer_to u)
number_plus structs j u = None

abbrev pub sum_of : Structs → CType → CType → Option CType
sum_of structs (Int j) u = number_plus structs j u
sum_of structs (Pointer' p (more_of-CType t end_of-CType)) u = pointer_plus structs t u
sum_of structs t u = None

abbrev pub difference_of : Structs → CType → CType → Option CType
difference_of structs (Int j) u = number_of (Int j) u
difference_of structs (Pointer' p (more_of-CType t end_of-CType)) u = pointer_plus structs t u
difference_of structs t u = None

-- The common type of two operands: the usual kind of two numbers, or the type of two pointers of one type, or that of one
-- pointer beside the constant 0.
abbrev pub number_beside : Bool → IntKind → CType → Option CType
number_beside zero j (Int k) = Some (Int (usual j k))
number_beside zero j (Pointer' q (more_of-CType u end_of-CType)) = when zero (pointer_to u)
number_beside zero j u = None

abbrev pub pointer_beside : Bool → CType → CType → Option CType
pointer_beside other_zero t (Int k) = when other_zero (pointer_to t)
pointer_beside other_zero t (Pointer' q (more_of-CType u end_of-CType)) = when (same_type t u) (pointer_to t)
pointer_beside other_zero t u = None

abbrev pub common_of : Bool → Bool → CType → CType → Option CType
common_of zero other_zero (Int j) u = number_beside zero j u
common_of zero other_zero (Pointer' p (more_of-CType t end_of-CType)) u = pointer_beside other_zero t u
common_of zero other_zero t u = None

abbrev pub common_type : Operand → Operand → Option CType
common_type a b = common_of (is_zero a.standing) (is_zero b.standing) (value_type a) (value_type b)

-- functions have no order
abbrev pub points_to_function : CType → Bool
points_to_function (Pointer' p (more_of-CType t end_of-CType)) = is_function t
points_to_function t = false

abbrev pub with_order : CType → Option CType
with_order t = when (not (points_to_function t)) t

-- the type that both operands of `<`, `<=`, `>` and `>=` are cast to
abbrev pub order_type : Operand → Operand → Option CType
order_type a b = option_and_then with_order (common_type a b)

abbrev pub comparison_type : Option CType → Option CType
comparison_type common = option_map (λ t. int_type) common

-- an operator on two operands
abbrev pub binary_type : Structs → IntOp → Operand → Operand → Option CType
binary_type structs Add a b = sum_of structs (value_type a) (value_type b)
binary_type structs Sub a b = difference_of structs (value_type a) (value_type b)
binary_type structs Mul a b = number_of (value_type a) (value_type b)
binary_type structs Div a b = number_of (value_type a) (value_type b)
binary_type structs Rem a b = number_of (value_type a) (value_type b)
binary_type structs And a b = number_of (value_type a) (value_type b)
binary_type structs Or a b = number_of (value_type a) (value_type b)
binary_type structs Xor a b = number_of (value_type a) (value_type b)
binary_type structs Shl a b = shift_of (value_type a) (value_type b)
binary_type structs Shr a b = shift_of (value_type a) (value_type b)
binary_type structs Eq a b = comparison_type (common_type a b)
binary_type structs Ne a b = comparison_type (common_type a b)
binary_type structs Lt a b = comparison_type (order_type a b)
binary_type structs Le a b = comparison_type (order_type a b)
binary_type structs Gt a b = comparison_type (order_type a b)
binary_type structs Ge a b = comparison_type (order_type a b)

-- the element of `a[i]`, which is `*(a + i)`
abbrev pub element_type : Structs → Operand → Operand → Option CType
element_type structs a i = option_and_then pointee (sum_of structs (value_type a) (value_type i))

-- the struct that `.` or `->` takes a field of
abbrev pub struct_before : MemberOp → Operand → Option (List ℕ)
struct_before Dot a = tag_of a.ctype
struct_before Arrow a = option_and_then tag_of (pointee (value_type a))

-- What may be assigned to: an object that is a number or a pointer.
abbrev pub is_target : Operand → Bool
is_target a = is_object a.standing && is_scalar a.ctype

-- Whether a value may become one of a type where it is assigned, passed, returned or set at a declaration: a number any
-- number, a pointer one of its own type or of or from `void *`, and the constant 0 any pointer.
abbrev pub joins : CType → CType → Bool
joins t u = same_type t u || (is_void t || is_void u)

abbrev pub is_number : CType → Bool
is_number (Int k) = true
is_number t = false

abbrev pub becomes_pointer : CType → Bool → CType → Bool
becomes_pointer t zero (Int k) = zero
becomes_pointer t zero (Pointer' q (more_of-CType u end_of-CType)) = joins t u
becomes_pointer t zero u = false

abbrev pub converts_to : CType → Bool → CType → Bool
converts_to (Int j) zero u = is_number u
converts_to (Pointer' p (more_of-CType t end_of-CType)) zero u = becomes_pointer t zero u
converts_to t zero u = false

abbrev pub fits_into : CType → Operand → Bool
fits_into t a = converts_to t (is_zero a.standing) (value_type a)

-- Whether a value may be cast to a type as it is written: a number to any number, a pointer to any pointer, and the
-- constant 0 to any pointer.
abbrev pub casts_to_pointer : Bool → CType → Bool
casts_to_pointer zero (Int k) = zero
casts_to_pointer zero (Pointer' q u) = true
casts_to_pointer zero u = false

abbrev pub casts_to : CType → Bool → CType → Bool
casts_to (Int j) zero u = is_number u
casts_to (Pointer' p t) zero u = casts_to_pointer zero u
casts_to t zero u = false

abbrev pub is_cast : CType → Operand → Bool
is_cast t a = casts_to t (is_zero a.standing) (value_type a)

-- The parameters and the result of what is called: a function or a pointer to one.
abbrev pub signature_of : CType → Option (List CType × CType)
signature_of (Function' shape ps p (more_of-CType r end_of-CType)) = Some (items-the_row-CType _ ps, r)
signature_of t = None

abbrev pub signature : Operand → Option (List CType × CType)
signature a = option_and_then signature_of (pointee (value_type a))

-- the signature, where it has so many parameters
abbrev pub with_count : ℕ → List CType × CType → Option (List CType × CType)
with_count n s = when (length s.0 == n) s

abbrev pub callee_signature : ℕ → Operand → Option (List CType × CType)
callee_signature n a = option_and_then (with_count n) (signature a)

-- `++` and `--` add or subtract 1, and the sum goes to what it was made of
abbrev pub is_stepped : Structs → Operand → Bool
is_stepped structs a = is_target a && is_some (sum_of structs (value_type a) int_type)
