-- Operators and casts on pointers. Null is the Vlong of 0.
use Rattle.std.specs.Prelude.{ℕ, ◌==◌, ◌^◌, ◌&&◌, Bool, true, false, not, ℤ, pos, ◌+ℤ◌, ◌-ℤ◌, ◌*ℤ◌, Option, Some, None, option_map, option_and_then, if◌then◌else◌, nat_lt, nat_le}
use Rattle.std.specs.Int.{from_bool}
use Rattle.floyd_int.specs.declared.kinds.IntOp.{IntOp}
use Rattle.floyd_int.specs.declared.kinds.IntOp.TheVariants.{Add, Sub, Mul, Div, Rem, And, Or, Xor, Shl, Shr, Eq, Ne, Lt, Le, Gt, Ge}
use Rattle.floyd_int.specs.declared.kinds.Value.{Value}
use Rattle.floyd_int.specs.declared.kinds.Value.TheVariants.{Vint, Vlong, Vptr}
use Rattle.floyd_int.specs.Kind.{modulo}
use Rattle.floyd_ctypes.specs.declared.ctype.CType.{CType}
use Rattle.floyd_ctypes.specs.Structs.{Structs}
use Rattle.floyd_ctypes.specs.Layout.{size}
use Rattle.floyd_ctypes.specs.Has.{has}
use Rattle.floyd_clight.specs.declared.syntax.UnaryOp.{UnaryOp}
use Rattle.floyd_clight.specs.declared.syntax.UnaryOp.TheVariants.{Not}
use Rattle.floyd_clight_machine.specs.Types.{is_pointer}
use Rattle.floyd_clight_machine.specs.Looking.{Look, is_weakly_valid}

-- an offset that moves up by z, modulo 2 ^ 64
abbrev pub moved : ℕ → ℤ → ℕ
moved offset z = modulo (pos offset +ℤ z) (2 ^ 64)

-- moved up by so many bytes
abbrev pub moved_up : Value → ℤ → Option Value
moved_up (Vptr block offset) z = Some (Vptr block (moved offset z))
moved_up v z = None

-- moved down by so many bytes
abbrev pub moved_down : Value → ℤ → Option Value
moved_down v z = moved_up v (pos 0 -ℤ z)

-- so many elements of a type, in bytes
abbrev pub bytes_of : Structs → CType → ℤ → Option ℤ
bytes_of structs t i = option_map (λ bytes. pos bytes *ℤ i) (size structs t)

-- Two addresses are equal. Null and null are; a pointer is not null where it is weakly valid; two pointers in one block
-- are where their offsets are, both being weakly valid; in two blocks they are not, both being valid.
abbrev pub equal_pointers : Look → Value → Value → Option Bool
equal_pointers look (Vlong m) (Vlong n) = if m == 0 && n == 0 then Some true else None
equal_pointers look (Vlong m) (Vptr b o) = if m == 0 && is_weakly_valid look b o then Some false else None
equal_pointers look (Vptr b o) (Vlong n) = if n == 0 && is_weakly_valid look b o then Some false else None
equal_pointers look (Vptr b o) (Vptr c q) =
    if b == c then (if is_weakly_valid look b o && is_weakly_valid look c q then Some (o == q) else None)
    else (if look.is_valid b o && look.is_valid c q then Some false else None)
equal_pointers look v w = None

-- an order of two pointers, by that of their offsets: in one block, where both are weakly valid
abbrev pub ordered_pointers : Look → (ℕ → ℕ → Bool) → Value → Value → Option Bool
ordered_pointers look order (Vptr b o) (Vptr c q) =
    if b == c && (is_weakly_valid look b o && is_weakly_valid look c q) then Some (order o q) else None
ordered_pointers look order v w = None

-- a comparison gives an int, 1 or 0
abbrev pub truth : Option Bool → Option Value
truth t = option_map (λ b. Vint (from_bool b)) t

abbrev pub compare_pointers : Look → IntOp → Value → Value → Option Value
compare_pointers look Add v w = None
compare_pointers look Sub v w = None
compare_pointers look Mul v w = None
compare_pointers look Div v w = None
compare_pointers look Rem v w = None
compare_pointers look And v w = None
compare_pointers look Or v w = None
compare_pointers look Xor v w = None
compare_pointers look Shl v w = None
compare_pointers look Shr v w = None
compare_pointers look Eq v w = truth (equal_pointers look v w)
compare_pointers look Ne v w = truth (option_map not (equal_pointers look v w))
compare_pointers look Lt v w = truth (ordered_pointers look nat_lt v w)
compare_pointers look Le v w = truth (ordered_pointers look nat_le v w)
compare_pointers look Gt v w = truth (ordered_pointers look (λ o q. nat_lt q o) v w)
compare_pointers look Ge v w = truth (ordered_pointers look (λ o q. nat_le q o) v w)

-- a pointer to elements of a type, moved by an integer of a kind
abbrev pub move_pointer : Structs → IntOp → CType → Value → Option ℤ → Option Value
move_pointer structs Add t v i = option_and_then (moved_up v) (option_and_then (bytes_of structs t) i)
move_pointer structs Sub t v i = option_and_then (moved_down v) (option_and_then (bytes_of structs t) i)
move_pointer structs op t v i = None

-- an integer before a pointer: it may only be added
abbrev pub move_by : Structs → IntOp → CType → Option ℤ → Value → Option Value
move_by structs Add t i v = option_and_then (moved_up v) (option_and_then (bytes_of structs t) i)
move_by structs op t i v = None

abbrev pub on_addresses : Look → IntOp → Option CType → Option CType → Value → Value → Option Value
on_addresses look op (Some t) (Some u) v w = compare_pointers look op v w
on_addresses look op (Some t) None v w = None
on_addresses look op None u v w = None

abbrev pub pointer_first : Structs → IntOp → Option CType → Value → Option ℤ → Option Value
pointer_first structs op None v i = None
pointer_first structs op (Some t) v i = move_pointer structs op t v i

abbrev pub pointer_second : Structs → IntOp → Option ℤ → Option CType → Value → Option Value
pointer_second structs op i None v = None
pointer_second structs op i (Some t) v = move_by structs op t i v

-- `!e` is `e == 0`
abbrev pub pointer_unary : Look → UnaryOp → Option CType → Value → Option Value
pointer_unary look Not (Some t) v = truth (equal_pointers look v (Vlong 0))
pointer_unary look op t v = None

-- a cast from an address to a pointer type keeps what the type may hold
abbrev pub pointer_cast : Option CType → CType → Value → Option Value
pointer_cast None to v = None
pointer_cast (Some t) to v = if is_pointer to && has to v then Some v else None
