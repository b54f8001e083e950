-- Operators and casts on the values of integers. A number of up to 32 bits is a Vint, and one of 64 bits a Vlong.
use Rattle.std.specs.Prelude.{ℕ, ◌-◌, ◌^◌, Option, Some, None, option_map, option_and_then, if◌then◌else◌, bit_xor}
use Rattle.floyd_int.specs.declared.kinds.IntKind.{IntKind}
use Rattle.floyd_int.specs.declared.kinds.IntKind.TheVariants.{I8, U8, I16, U16, I32, U32, I64, U64}
use Rattle.floyd_int.specs.declared.kinds.IntOp.{IntOp}
use Rattle.floyd_int.specs.declared.kinds.IntOp.TheVariants.{Shl, Shr, Eq}
use Rattle.floyd_int.specs.declared.kinds.Value.{Value}
use Rattle.floyd_int.specs.declared.kinds.Value.TheVariants.{Vint, Vlong}
use Rattle.floyd_int.specs.Kind.{width, value_of, cast_of}
use Rattle.floyd_int.specs.Operation.{operation_of, negation_of, left_shift, right_shift, is_comparison}
use Rattle.floyd_clight.specs.declared.syntax.UnaryOp.{UnaryOp}
use Rattle.floyd_clight.specs.declared.syntax.UnaryOp.TheVariants.{Neg, Complement, Not}

-- the kind with which a value of a kind is read: one of 8 or 16 bits by all 32 bits of its Vint, with its own sign
abbrev pub read_as : IntKind → IntKind
read_as I8 = I32
read_as U8 = U32
read_as I16 = I32
read_as U16 = U32
read_as I32 = I32
read_as U32 = U32
read_as I64 = I64
read_as U64 = U64

-- the bits of a value of a kind
abbrev pub bits_of : IntKind → Value → Option ℕ
bits_of I8 (Vint b) = Some b
bits_of U8 (Vint b) = Some b
bits_of I16 (Vint b) = Some b
bits_of U16 (Vint b) = Some b
bits_of I32 (Vint b) = Some b
bits_of U32 (Vint b) = Some b
bits_of I64 (Vlong b) = Some b
bits_of U64 (Vlong b) = Some b
bits_of k v = None

-- the value of a kind that has these bits of its width: one of 8 or 16 bits is the Vint of the same number
abbrev pub value_with : IntKind → ℕ → Value
value_with I8 b = Vint (cast_of I8 I32 b)
value_with U8 b = Vint (cast_of U8 I32 b)
value_with I16 b = Vint (cast_of I16 I32 b)
value_with U16 b = Vint (cast_of U16 I32 b)
value_with I32 b = Vint b
value_with U32 b = Vint b
value_with I64 b = Vlong b
value_with U64 b = Vlong b

-- from one kind to another
abbrev pub cast_bits : IntKind → IntKind → ℕ → Value
cast_bits from to b = value_with to (cast_of (read_as from) to b)

-- operands and the result have one kind; a comparison gives an int, 0 or 1
abbrev pub result_with : IntOp → IntKind → ℕ → Value
result_with op k b = if is_comparison op then Vint b else value_with k b

-- two kinds of operands, where they are one; the kinds of C's arithmetic have 32 or 64 bits
abbrev pub common : IntKind → IntKind → Option IntKind
common I32 I32 = Some I32
common U32 U32 = Some U32
common I64 I64 = Some I64
common U64 U64 = Some U64
common k l = None

-- a shift, whose amount is read by its own kind
abbrev pub left_by : IntKind → IntKind → ℕ → ℕ → Option Value
left_by k l a b = option_map (value_with k) (left_shift k (value_of k a) (value_of (read_as l) b))

abbrev pub right_by : IntKind → IntKind → ℕ → ℕ → Option Value
right_by k l a b = option_map (value_with k) (right_shift k (value_of k a) (value_of (read_as l) b))

-- any other operator
abbrev pub operate : IntOp → Option IntKind → ℕ → ℕ → Option Value
operate op None a b = None
operate op (Some k) a b = option_map (result_with op k) (operation_of op k a b)

-- an operator on bits of the kinds k and l
abbrev pub on_bits : IntOp → IntKind → IntKind → ℕ → ℕ → Option Value
on_bits Shl k l a b = left_by k l a b
on_bits Shr k l a b = right_by k l a b
on_bits op k l a b = operate op (common k l) a b

-- the bits the other way round, each of them
abbrev pub complement_of : IntKind → ℕ → ℕ
complement_of k a = bit_xor a (2 ^ width k - 1)

-- an operator on bits of the kind k; `!e` is `e == 0`
abbrev pub on_one : UnaryOp → IntKind → ℕ → Option Value
on_one Neg k a = option_map (value_with k) (negation_of k a)
on_one Complement k a = Some (value_with k (complement_of k a))
on_one Not k a = option_map Vint (operation_of Eq k a 0)

-- on the values of integers
abbrev pub unary : UnaryOp → IntKind → Value → Option Value
unary op k v = option_and_then (on_one op (read_as k)) (bits_of k v)

abbrev pub binary : IntOp → IntKind → IntKind → Value → Value → Option Value
binary op k l v w = option_and_then (λ a. option_and_then (on_bits op (read_as k) l a) (bits_of l w)) (bits_of k v)

abbrev pub cast : IntKind → IntKind → Value → Option Value
cast from to v = option_map (cast_bits from to) (bits_of from v)
