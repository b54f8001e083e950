-- What expressions give. Temporaries are a function of names; those that were never set hold Vundef.
use Rattle.std.specs.Prelude.{ℕ, List, Option, Some, None, option_map, option_and_then, if◌then◌else◌, bytes_eq}
use Rattle.floyd_int.specs.declared.kinds.IntOp.{IntOp}
use Rattle.floyd_int.specs.declared.kinds.Value.{Value}
use Rattle.floyd_int.specs.declared.kinds.Value.TheVariants.{Vundef, Vlong}
use Rattle.floyd_memval.specs.declared.bytes.MemByte.{MemByte}
use Rattle.floyd_ctypes.specs.declared.ctype.CType.{CType, Int}
use Rattle.floyd_ctypes.specs.Structs.{Structs}
use Rattle.floyd_ctypes.specs.Layout.{size}
use Rattle.floyd_clight.specs.declared.syntax.UnaryOp.{UnaryOp}
use Rattle.floyd_clight.specs.declared.syntax.Expr.{Expr, Const, Temp, Var, Deref', AddrOf', Unary', Binary', Cast', Field', SizeOf, end_of-Expr, more_of-Expr}
use Rattle.floyd_clight.specs.Types.{type_of}
use Rattle.floyd_stub_machine.specs.Integers as i

-- a name, as its bytes
abbrev pub Ident : Type 0
Ident = List ℕ

abbrev pub Temps : Type 0
Temps = Ident → Value

-- no temporary was set
abbrev pub unset : Temps
unset = λ x. Vundef

abbrev pub with_temp : Ident → Value → Temps → Temps
with_temp x v temps = λ y. if bytes_eq y x then v else temps y

-- a way to look at a place: the byte that may be read there. The machine looks at its memory, a rule at a heaplet
pub record Look : Type 0 where
  pub byte_at : ℕ → ℕ → Option MemByte

-- Places and pointers are not built yet: what needs them has no value, here and in the six definitions that follow.
-- The value, or the address, of a variable that has a place, or of a function.
abbrev pub variable_value : Look → Ident → CType → Option Value
variable_value look x t = None

-- the value, or the address, of what a pointer leads to
abbrev pub deref_value : Look → CType → Option Value → Option Value
deref_value look t v = None

-- the value, or the address, of a field
abbrev pub field_value : Look → Ident → CType → Option Value
field_value look x t = None

-- the address of what an expression stands for
abbrev pub address_value : Look → CType → Option Value
address_value look t = None

-- an operator on one operand that is no integer
abbrev pub pointer_unary : UnaryOp → CType → Value → Option Value
pointer_unary op t v = None

-- an operator on two operands, of which one is no integer
abbrev pub pointer_binary : IntOp → CType → CType → Value → Value → Option Value
pointer_binary op t u v w = None

-- a cast from or to a type that is no integer's
abbrev pub pointer_cast : CType → CType → Value → Option Value
pointer_cast from to v = None

-- an operator on an operand of that type
abbrev pub unary_value : UnaryOp → CType → Value → Option Value
unary_value op (Int k) v = i.unary op k v
unary_value op t v = pointer_unary op t v

-- an operator on operands of these types
abbrev pub binary_value : IntOp → CType → CType → Value → Value → Option Value
binary_value op (Int k) (Int l) v w = i.binary op k l v w
binary_value op t u v w = pointer_binary op t u v w

-- a cast between these types
abbrev pub cast_value : CType → CType → Value → Option Value
cast_value (Int from) (Int to) v = i.cast from to v
cast_value from to v = pointer_cast from to v

-- the value of an expression, where it has one
abbrev pub eval_by : Structs → Look → Temps → Expr → Option Value
eval_by structs look temps (Const v t) = Some v
eval_by structs look temps (Temp x t) = Some (temps x)
eval_by structs look temps (Var binding x t) = variable_value look x t
eval_by structs look temps (Deref' p (more_of-Expr e end_of-Expr) t) = deref_value look t (eval_by structs look temps e)
eval_by structs look temps (AddrOf' p (more_of-Expr e end_of-Expr) t) = address_value look t
eval_by structs look temps (Unary' op p (more_of-Expr e end_of-Expr) t) =
    option_and_then (unary_value op (type_of e)) (eval_by structs look temps e)
eval_by structs look temps (Binary' op p (more_of-Expr a end_of-Expr) q (more_of-Expr b end_of-Expr) t) =
    option_and_then (λ v. option_and_then (binary_value op (type_of a) (type_of b) v) (eval_by structs look temps b)) (eval_by structs look temps a)
eval_by structs look temps (Cast' p (more_of-Expr e end_of-Expr) t) = option_and_then (cast_value (type_of e) t) (eval_by structs look temps e)
eval_by structs look temps (Field' p (more_of-Expr e end_of-Expr) x t) = field_value look x t
eval_by structs look temps (SizeOf of t) = option_map Vlong (size structs of)
