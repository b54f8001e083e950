-- The types of expressions follow from those of their parts. Casts stand where C converts: operands of arithmetic and of
-- comparisons have one type, which is promoted, and the constant 0 beside a pointer is cast to that pointer's type.
use Rattle.std.specs.Prelude.{◌≡◌, ℕ, Bool, true, false, ◌&&◌, List, Option, Some, None, is_some, option_map, find, bytes_eq, if◌then◌else◌, ◌⊎◌}
use Rattle.std.specs.Map.{lookup}
use Rattle.std.specs.Option.{option_map_or}
use Rattle.floyd_int.specs.declared.kinds.IntKind.{IntKind}
use Rattle.floyd_int.specs.declared.kinds.IntKind.TheVariants.{I32, U64}
use Rattle.floyd_int.specs.declared.kinds.IntOp.{IntOp}
use Rattle.floyd_int.specs.declared.kinds.IntOp.TheVariants.{Add, Sub, Shl, Shr, Eq, Ne}
use Rattle.floyd_int.specs.declared.kinds.Value.{Value}
use Rattle.floyd_int.specs.Operation.{is_comparison}
use Rattle.floyd_ctypes.specs.declared.ctype.CType.{CType, Void, Int, Struct}
use Rattle.floyd_ctypes.specs.declared.field.Field.{Field}
use Rattle.floyd_ctypes.specs.Has.{has}
use Rattle.floyd_ctypes.specs.Layout.{size, type_fits}
use Rattle.floyd_ctypes.specs.Structs.{Structs, field_of}
use Rattle.floyd_clight.specs.declared.syntax.Binding.{Binding}
use Rattle.floyd_clight.specs.declared.syntax.Binding.TheVariants.{Block, File}
use Rattle.floyd_clight.specs.declared.syntax.Expr.{Expr, Const, Temp, Var, Deref', AddrOf', Unary', Binary', Cast', Field', SizeOf, more_of-Expr, end_of-Expr}
use Rattle.floyd_clight.specs.declared.syntax.UnaryOp.{UnaryOp}
use Rattle.floyd_clight.specs.declared.syntax.UnaryOp.TheVariants.{Neg, Complement, Not}
use Rattle.floyd_clight.specs.declared.unit.Local.{Local}
use Rattle.floyd_clight.specs.Types.{type_of}
use Rattle.floyd_clight_machine.specs.Evaluation.{is_zero_constant}
use Rattle.floyd_clight_machine.specs.Integers.{common}
use Rattle.floyd_clight_machine.specs.Types.{is_pointer, pointee, same_type, signature_of}

-- what a body may mention, with its type: temporaries, its own variables with blocks, and the variables and functions of
-- the file
pub record Names : Type 0 where
  pub temporaries : List Local
  pub blocks : List Local
  pub file : List (List ℕ × CType)

abbrev pub local_type : List Local → List ℕ → Option CType
local_type locals x = option_map (λ (l : Local). l.ctype) (find (λ (l : Local). bytes_eq x l.name) locals)

abbrev pub type_named : Names → Binding → List ℕ → Option CType
type_named names Block x = local_type names.blocks x
type_named names File x = lookup (bytes_eq x) names.file

abbrev pub int : CType
int = Int I32

-- a pointer to that type
pub record IsPointerTo (t u : CType) : Type 0 where
  pub pointer : is_pointer t ≡ true
  pub to : pointee t ≡ Some u

-- Whether an expression of type u has a value of type t: an array is a pointer to its first element, and a function a
-- pointer to it.
abbrev pub is_value_by : CType → CType → Option CType → Bool
is_value_by t u None = same_type t u
is_value_by t u (Some target) = is_pointer t && option_map_or (λ r. same_type r target) (pointee t) false

abbrev pub is_value_of : CType → CType → Bool
is_value_of t u = is_value_by t u (pointee u)

abbrev pub IsPromoted : IntKind → Type 0
IsPromoted k = common k k ≡ Some k

-- a number of a promoted kind
abbrev pub IsConstant : CType → Value → Type 0
IsConstant (Int k) v = IsPromoted k × (has (Int k) v ≡ true)
IsConstant t v = ⊥

-- an expression that stands for an object or a function
abbrev pub is_place : Expr → Bool
is_place (Var binding x t) = true
is_place (Deref' p e t) = true
is_place (Field' p e x t) = true
is_place e = false

-- `-` and `~` of a promoted number, and `!` of one or of a pointer
abbrev pub IsUnary : UnaryOp → CType → CType → Type 0
IsUnary Neg (Int k) t = IsPromoted k × (t ≡ Int k)
IsUnary Complement (Int k) t = IsPromoted k × (t ≡ Int k)
IsUnary Not (Int k) t = IsPromoted k × (t ≡ int)
IsUnary Not u t = (is_some (pointee u) ≡ true) × (t ≡ int)
IsUnary op u t = ⊥

-- Two numbers are of one promoted kind, which the result has, but a comparison is an int. A shift's amount keeps its own
-- kind.
abbrev pub OfNumbers : IntOp → IntKind → IntKind → CType → Type 0
OfNumbers Shl j k t = IsPromoted j × (t ≡ Int j)
OfNumbers Shr j k t = IsPromoted j × (t ≡ Int j)
OfNumbers op j k t = (l : IntKind) × (common j k ≡ Some l) × (t ≡ (if is_comparison op then int else Int l))

-- a pointer to what has a size, moved by a number
pub record IsMoved (structs : Structs) (u t : CType) : Type 0 where
  pub target : CType
  pub to : pointee u ≡ Some target
  pub sized : is_some (size structs target) ≡ true
  pub moved : IsPointerTo t target

-- two pointers of one type are compared; functions have no order
abbrev pub has_order : IntOp → CType → Bool
has_order Eq t = true
has_order Ne t = true
has_order op t = option_map_or (λ s. false) (signature_of t) true

pub record AreCompared (op : IntOp) (u w t : CType) : Type 0 where
  pub comparison : is_comparison op ≡ true
  pub target : CType
  pub first : pointee u ≡ Some target
  pub second : CType
  pub to : pointee w ≡ Some second
  pub same : same_type target second ≡ true
  pub order : has_order op target ≡ true
  pub is : t ≡ int

abbrev pub IsBinary : Structs → IntOp → CType → CType → CType → Type 0
IsBinary structs op (Int j) (Int k) t = OfNumbers op j k t
IsBinary structs Add u (Int k) t = IsMoved structs u t
IsBinary structs Sub u (Int k) t = IsMoved structs u t
IsBinary structs Add (Int j) w t = IsMoved structs w t
IsBinary structs op u w t = AreCompared op u w t

-- between numbers, between pointers, and from the constant 0 to a pointer
abbrev pub is_number : CType → Bool
is_number (Int k) = true
is_number t = false

abbrev pub IsCast : Expr → CType → Type 0
IsCast e (Int k) = is_number (type_of e) ≡ true
IsCast e t = (is_pointer t ≡ true) × (((is_some (pointee (type_of e)) ≡ true)) ⊎ (is_zero_constant e ≡ true))

-- the type of the field of that name, of a complete struct that has it
abbrev pub field_type : Structs → CType → List ℕ → Option CType
field_type structs (Struct tag) x = option_map (λ (f : Field). f.ty) (field_of structs tag x)
field_type structs t x = None

module _ (structs : Structs) (names : Names) where
  -- Each part has its type, and so has the whole. A name is one of those that may be mentioned, with its type.
  abbrev pub IsTyped : Expr → Type 0
  IsTyped (Const v t) = IsConstant t v
  IsTyped (Temp x t) = local_type names.temporaries x ≡ Some t
  IsTyped (Var binding x t) = type_named names binding x ≡ Some t
  IsTyped (Deref' p (more_of-Expr e end_of-Expr) t) = IsTyped e × (pointee (type_of e) ≡ Some t) × (same_type t Void ≡ false)
  IsTyped (AddrOf' p (more_of-Expr e end_of-Expr) t) = IsTyped e × (is_place e ≡ true) × IsPointerTo t (type_of e)
  IsTyped (Unary' op p (more_of-Expr e end_of-Expr) t) = IsTyped e × IsUnary op (type_of e) t
  IsTyped (Binary' op p (more_of-Expr a end_of-Expr) q (more_of-Expr b end_of-Expr) t) = IsTyped a × IsTyped b × IsBinary structs op (type_of a) (type_of b) t
  IsTyped (Cast' p (more_of-Expr e end_of-Expr) t) = IsTyped e × IsCast e t
  IsTyped (Field' p (more_of-Expr e end_of-Expr) x t) = IsTyped e × (field_type structs (type_of e) x ≡ Some t)
  IsTyped (SizeOf of t) = (t ≡ Int U64) × (is_some (size structs of) ≡ true) × (type_fits structs of ≡ true)

-- an expression whose value has that type
pub record IsValueOf (structs : Structs) (names : Names) (t : CType) (e : Expr) : Type 0 where
  pub typed : IsTyped structs names e
  pub same : is_value_of t (type_of e) ≡ true
