-- The values that a variable of a scalar type may hold (Verifiable C's `tc_val`).
use Rattle.std.specs.Prelude.{Bool, true, false, ℕ, ◌+◌, ◌^◌, ◌==◌, ◌&&◌, ◌||◌, nat_le, nat_lt, IsTrue}
use Rattle.floyd_int.specs.declared.kinds.IntKind.{IntKind}
use Rattle.floyd_int.specs.declared.kinds.IntKind.TheVariants.{I8, U8, I16, U16, I32, U32, I64, U64}
use Rattle.floyd_int.specs.declared.kinds.Value.{Value}
use Rattle.floyd_int.specs.declared.kinds.Value.TheVariants.{Vundef, Vint, Vlong, Vptr}
use Rattle.floyd_ctypes.specs.declared.ctype.CType.{CType, Void, Int, Pointer'}

-- 32 bits that, read with a sign, lie between -m and m - 1: they are below m, or among the last m of all
abbrev pub signed_within : ℕ → ℕ → Bool
signed_within m bits = nat_lt bits m || (nat_le (2 ^ 32) (bits + m) && nat_lt bits (2 ^ 32))

-- a number of a kind: of 32 bits that, read with the kind's sign, lie in its range, where it has 32 bits or fewer, and
-- else of 64 bits
abbrev pub has_kind : IntKind → Value → Bool
has_kind I8 (Vint bits) = signed_within (2 ^ 7) bits
has_kind U8 (Vint bits) = nat_lt bits (2 ^ 8)
has_kind I16 (Vint bits) = signed_within (2 ^ 15) bits
has_kind U16 (Vint bits) = nat_lt bits (2 ^ 16)
has_kind I32 (Vint bits) = nat_lt bits (2 ^ 32)
has_kind U32 (Vint bits) = nat_lt bits (2 ^ 32)
has_kind I64 (Vlong bits) = nat_lt bits (2 ^ 64)
has_kind U64 (Vlong bits) = nat_lt bits (2 ^ 64)
has_kind k v = false

-- a pointer or null
abbrev pub has_pointer : Value → Bool
has_pointer (Vptr block offset) = true
has_pointer (Vlong bits) = bits == 0
has_pointer v = false

abbrev pub is_undefined : Value → Bool
is_undefined Vundef = true
is_undefined v = false

-- what a variable of a scalar type may hold; of void, which is a result's type alone, what a function without a result
-- gives; nothing of the other types
abbrev pub has : CType → Value → Bool
has Void v = is_undefined v
has (Int k) v = has_kind k v
has (Pointer' p to) v = has_pointer v
has t v = false

abbrev pub Has : CType → Value → Type 0
Has t v = IsTrue (has t v)
