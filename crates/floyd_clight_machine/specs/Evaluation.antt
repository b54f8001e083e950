-- What expressions give. Temporaries are a function of names; those that were never set hold Vundef.
use Rattle.std.specs.Prelude.{List, [], ◌∷◌, ℕ, ◌==◌, ◌&&◌, Bool, false, Option, Some, None, option_map, option_and_then, if◌then◌else◌, bytes_eq}
use Rattle.floyd_int.specs.declared.kinds.IntOp.{IntOp}
use Rattle.floyd_int.specs.declared.kinds.Value.{Value}
use Rattle.floyd_int.specs.declared.kinds.Value.TheVariants.{Vundef, Vlong, Vptr}
use Rattle.floyd_ctypes.specs.declared.ctype.CType.{CType, Int, Struct}
use Rattle.floyd_ctypes.specs.Structs.{Structs}
use Rattle.floyd_ctypes.specs.Layout.{size, offset}
use Rattle.floyd_clight.specs.declared.syntax.UnaryOp.{UnaryOp}
use Rattle.floyd_clight.specs.declared.syntax.Expr.{Expr, Const, Temp, Var, Deref', AddrOf', Unary', Binary', Cast', Field', SizeOf, end_of-Expr, more_of-Expr}
use Rattle.floyd_clight.specs.Types.{type_of}
use Rattle.std.specs.Prelude.{pos}
use Rattle.floyd_clight_machine.specs.Types.{pointee, is_pointer}
use Rattle.floyd_clight_machine.specs.Integers as i
use Rattle.floyd_clight_machine.specs.Pointers.{moved, on_addresses, pointer_first, pointer_second, pointer_unary, pointer_cast}
pub use Rattle.floyd_clight_machine.specs.Looking.{Ident, Spot, Look, address, value_at}

abbrev pub Temps : Type 0
Temps = Ident → Value

-- no temporary was set
abbrev pub unset : Temps
unset = λ x. Vundef

abbrev pub with_temp : Ident → Value → Temps → Temps
with_temp x v temps = λ y. if bytes_eq y x then v else temps y

-- an operator on an operand of that type
abbrev pub unary_value : Look → UnaryOp → CType → Value → Option Value
unary_value look op (Int k) v = i.unary op k v
unary_value look op t v = pointer_unary look op (pointee t) v

-- an operator on operands of these types
abbrev pub binary_value : Structs → Look → IntOp → CType → CType → Value → Value → Option Value
binary_value structs look op (Int k) (Int l) v w = i.binary op k l v w
binary_value structs look op (Int k) u v w = pointer_second structs op (i.number_of k v) (pointee u) w
binary_value structs look op t (Int l) v w = pointer_first structs op (pointee t) v (i.number_of l w)
binary_value structs look op t u v w = on_addresses look op (pointee t) (pointee u) v w

-- a cast between these types
abbrev pub cast_value : CType → CType → Value → Option Value
cast_value (Int from) (Int to) v = i.cast from to v
cast_value from to v = pointer_cast (pointee from) to v

abbrev pub is_zero : Option ℕ → Bool
is_zero None = false
is_zero (Some n) = n == 0

-- the constant 0, of a type of integers
abbrev pub is_zero_constant : Expr → Bool
is_zero_constant (Const v (Int k)) = is_zero (i.bits_of k v)
is_zero_constant e = false

-- where a pointer leads
abbrev pub led : Value → Option Spot
led (Vptr block offset) = Some (record { block = block; offset = offset })
led v = None

-- the start of a block
abbrev pub start_of : ℕ → Spot
start_of block = record { block = block; offset = 0 }

abbrev pub moved_spot : Spot → ℕ → Spot
moved_spot s bytes = record { block = s.block; offset = moved s.offset (pos bytes) }

-- the place of a field of a struct that stands at a place
abbrev pub field_of : Structs → CType → Ident → Spot → Option Spot
field_of structs (Struct tag) x s = option_map (moved_spot s) (offset structs tag x)
field_of structs t x s = None

abbrev mutual
  -- the value of an expression, where it has one
  pub eval_by : Structs → Look → Temps → Expr → Option Value
  eval_by structs look temps (Const v t) = Some v
  eval_by structs look temps (Temp x t) = Some (temps x)
  eval_by structs look temps (Var binding x t) = option_and_then (λ b. value_at look t (start_of b)) (look.block_of binding x)
  eval_by structs look temps (Deref' p (more_of-Expr e end_of-Expr) t) =
      option_and_then (value_at look t) (option_and_then led (eval_by structs look temps e))
  eval_by structs look temps (AddrOf' p (more_of-Expr e end_of-Expr) t) = option_map address (place_by structs look temps e)
  eval_by structs look temps (Unary' op p (more_of-Expr e end_of-Expr) t) =
      option_and_then (unary_value look op (type_of e)) (eval_by structs look temps e)
  eval_by structs look temps (Binary' op p (more_of-Expr a end_of-Expr) q (more_of-Expr b end_of-Expr) t) =
      option_and_then (λ v. option_and_then (binary_value structs look op (type_of a) (type_of b) v) (eval_by structs look temps b)) (eval_by structs look temps a)
  eval_by structs look temps (Cast' p (more_of-Expr e end_of-Expr) t) =
      if is_pointer t && is_zero_constant e then Some (Vlong 0) else option_and_then (cast_value (type_of e) t) (eval_by structs look temps e)
  eval_by structs look temps (Field' p (more_of-Expr e end_of-Expr) x t) =
      option_and_then (value_at look t) (option_and_then (field_of structs (type_of e) x) (place_by structs look temps e))
  eval_by structs look temps (SizeOf of t) = option_map Vlong (size structs of)

  -- the place that an expression stands for, where it stands for one
  pub place_by : Structs → Look → Temps → Expr → Option Spot
  place_by structs look temps (Const v t) = None
  place_by structs look temps (Temp x t) = None
  place_by structs look temps (Var binding x t) = option_map start_of (look.block_of binding x)
  place_by structs look temps (Deref' p (more_of-Expr e end_of-Expr) t) = option_and_then led (eval_by structs look temps e)
  place_by structs look temps (AddrOf' p (more_of-Expr e end_of-Expr) t) = None
  place_by structs look temps (Unary' op p (more_of-Expr e end_of-Expr) t) = None
  place_by structs look temps (Binary' op p (more_of-Expr a end_of-Expr) q (more_of-Expr b end_of-Expr) t) = None
  place_by structs look temps (Cast' p (more_of-Expr e end_of-Expr) t) = None
  place_by structs look temps (Field' p (more_of-Expr e end_of-Expr) x t) =
      option_and_then (field_of structs (type_of e) x) (place_by structs look temps e)
  place_by structs look temps (SizeOf of t) = None

abbrev pub with_first : Value → Option (List Value) → Option (List Value)
with_first v rest = option_map (λ vs. v ∷ vs) rest

-- the values of expressions, in order
abbrev pub eval_all_by : Structs → Look → Temps → List Expr → Option (List Value)
eval_all_by structs look temps [] = Some []
eval_all_by structs look temps (e ∷ es) = option_and_then (λ v. with_first v (eval_all_by structs look temps es)) (eval_by structs look temps e)
