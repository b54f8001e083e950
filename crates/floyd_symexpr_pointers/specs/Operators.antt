-- Which row an operator or a cast has, by its operands: numbers, and addresses with the type that they lead to. Where C has
-- no such operator, an operand is no number.
use Rattle.std.specs.Prelude.{Bool, true, false, ◌&&◌, nat_eq, Option, Some, None, List, Result, Ok, Err, if◌then◌else◌}
use Rattle.std.specs.Bool.{beq}
use Rattle.floyd_text.specs.declared.refusal.No.{No}
use Rattle.floyd_int.specs.declared.kinds.IntKind.{IntKind}
use Rattle.floyd_int.specs.declared.kinds.IntOp.{IntOp}
use Rattle.floyd_int.specs.declared.kinds.IntOp.TheVariants as c
use Rattle.floyd_int.specs.Kind.{width, is_signed}
use Rattle.floyd_ctypes.specs.declared.ctype.CType.{CType, Int, Pointer'}
use Rattle.floyd_ctypes.specs.Structs.{Structs}
use Rattle.floyd_clight.specs.declared.syntax.UnaryOp.{UnaryOp}
use Rattle.floyd_clight.specs.declared.syntax.UnaryOp.TheVariants.{Neg, Complement, Not}
use Rattle.floyd_clight_machine.specs.Types.{pointee}
use Rattle.floyd_tree_sorts.specs.declared.operators.Operator.TheVariants.{Quot, Rem, Band, Bor, Bxor, Shl, Shr, Add, Sub, Mul}
use Rattle.floyd_tree.specs.Plain.{Plain}
use Rattle.floyd_assert_trees.specs.declared.sep.Sep.{Sep}
use Rattle.floyd_fieldpath.specs.Written.{on_ok}
use Rattle.floyd_symexpr_rows.specs.declared.needs.Needs.{Needs}
use Rattle.floyd_symexpr_rows.specs.declared.needs.Number.{Number}
use Rattle.floyd_symexpr_rows.specs.declared.needs.Operand.{Operand}
use Rattle.floyd_symexpr_rows.specs.declared.needs.Operand.TheVariants.{OfKind, Address}
use Rattle.floyd_symexpr_pointers.specs.PointerRows.{pointer_equality, pointer_order, pointer_moved, way}
use Rattle.floyd_symexpr_rows.specs.Rows.{not_number, number, arithmetic, negation, division, bitwise, complement, shift, comparison, is_zero, null, number_cast, pointer_cast}

-- an array and a function are addresses, as a pointer is
abbrev pub address_of : Option CType → Plain → Result Operand No
address_of None v = Err not_number
address_of (Some t) v = Ok (Address t v)

-- an operand by its type
abbrev pub operand : CType → Plain → Result Operand No
operand (Int k) v = on_ok (number k v) (λ n. Ok (OfKind n))
operand t v = address_of (pointee t) v

abbrev pub same_kind : IntKind → IntKind → Bool
same_kind j k = nat_eq (width j) (width k) && beq (is_signed j) (is_signed k)

-- operators on two numbers of one kind
abbrev pub on_one_kind : IntOp → Number → Number → Needs → Result (Plain × Needs) No
on_one_kind c.Add a b needs = arithmetic Add a b needs
on_one_kind c.Sub a b needs = arithmetic Sub a b needs
on_one_kind c.Mul a b needs = arithmetic Mul a b needs
on_one_kind c.Div a b needs = division Quot a b needs
on_one_kind c.Rem a b needs = division Rem a b needs
on_one_kind c.And a b needs = bitwise Band a b needs
on_one_kind c.Or a b needs = bitwise Bor a b needs
on_one_kind c.Xor a b needs = bitwise Bxor a b needs
on_one_kind op a b needs = comparison op a b needs

-- the amount of a shift keeps its own kind; all other operators take two numbers of one kind
abbrev pub on_numbers : IntOp → Number → Number → Needs → Result (Plain × Needs) No
on_numbers c.Shl a b needs = shift Shl a b needs
on_numbers c.Shr a b needs = shift Shr a b needs
on_numbers op a b needs = if same_kind a.kind b.kind then on_one_kind op a b needs else Err not_number

abbrev pub on_addresses : Structs → List Sep → IntOp → Plain → Plain → Needs → Result (Plain × Needs) No
on_addresses structs parts c.Eq v w needs = pointer_equality false v w needs
on_addresses structs parts c.Ne v w needs = pointer_equality true v w needs
on_addresses structs parts op v w needs = pointer_order structs parts op v w needs

-- by how many bytes a pointer to elements of a type is moved that stands before a number, or behind it, where it may only be
-- added
abbrev pub way_first : Structs → IntOp → CType → Plain → Result Plain No
way_first structs c.Add t i = way structs false t i
way_first structs c.Sub t i = way structs true t i
way_first structs op t i = Err not_number

abbrev pub way_second : Structs → IntOp → CType → Plain → Result Plain No
way_second structs c.Add t i = way structs false t i
way_second structs op t i = Err not_number

abbrev pub binary : Structs → List Sep → IntOp → Operand → Operand → Needs → Result (Plain × Needs) No
binary structs parts op (OfKind a) (OfKind b) needs = on_numbers op a b needs
binary structs parts op (OfKind i) (Address t p) needs = on_ok (way_second structs op t i.term) (λ by. pointer_moved p by i needs)
binary structs parts op (Address t p) (OfKind i) needs = on_ok (way_first structs op t i.term) (λ by. pointer_moved p by i needs)
binary structs parts op (Address t v) (Address u w) needs = on_addresses structs parts op v w needs

abbrev pub on_number : UnaryOp → Number → Needs → Result (Plain × Needs) No
on_number Neg a needs = negation a needs
on_number Complement a needs = complement a needs
on_number Not a needs = is_zero a needs

-- `!p` is `p == 0`
abbrev pub on_address : UnaryOp → Plain → Needs → Result (Plain × Needs) No
on_address Not v needs = pointer_equality false v null needs
on_address op v needs = Err not_number

abbrev pub unary : UnaryOp → Operand → Needs → Result (Plain × Needs) No
unary op (OfKind a) needs = on_number op a needs
unary op (Address t v) needs = on_address op v needs

-- a cast of a number to a number, or of an address to a pointer
abbrev pub cast_to_kind : CType → Number → Needs → Result (Plain × Needs) No
cast_to_kind (Int k) a needs = number_cast k a needs
cast_to_kind t a needs = Err not_number

abbrev pub cast_to_pointer : CType → Plain → Needs → Result (Plain × Needs) No
cast_to_pointer (Pointer' p to) v needs = pointer_cast (Pointer' p to) v needs
cast_to_pointer t v needs = Err not_number

abbrev pub cast : CType → Operand → Needs → Result (Plain × Needs) No
cast to (OfKind a) needs = cast_to_kind to a needs
cast to (Address t v) needs = cast_to_pointer to v needs
