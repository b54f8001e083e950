-- Kinds of integers: the range of a kind, and the bits and the value of an integer. Numbers here are whole numbers without bound.
use Rattle.std.specs.Prelude.{ℕ, ◌-◌, ◌^◌, Bool, true, false, ◌&&◌, if◌then◌else◌, ℤ, pos, neg_ℤ, ◌-ℤ◌, ◌≤ℤ◌, nat_le, unsigned_abs}
use Rattle.std.specs.Int.{int_rem_euclid}
use Rattle.floyd_int.specs.declared.kinds.IntKind.{IntKind}
use Rattle.floyd_int.specs.declared.kinds.IntKind.TheVariants.{I8, U8, I16, U16, I32, U32, I64, U64}

-- how many bits an integer of the kind has
abbrev pub width : IntKind → ℕ
width I8 = 8
width U8 = 8
width I16 = 16
width U16 = 16
width I32 = 32
width U32 = 32
width I64 = 64
width U64 = 64

abbrev pub is_signed : IntKind → Bool
is_signed I8 = true
is_signed U8 = false
is_signed I16 = true
is_signed U16 = false
is_signed I32 = true
is_signed U32 = false
is_signed I64 = true
is_signed U64 = false

-- the least and the greatest value of the kind
abbrev pub least : IntKind → ℤ
least k = if is_signed k then neg_ℤ (pos (2 ^ (width k - 1))) else pos 0

abbrev pub greatest : IntKind → ℤ
greatest k = if is_signed k then pos (2 ^ (width k - 1) - 1) else pos (2 ^ width k - 1)

-- z is a value of the kind
pub record InRange (k : IntKind) (z : ℤ) : Type 0 where
  pub from_least : least k ≤ℤ z
  pub to_greatest : z ≤ℤ greatest k

-- z modulo n, which lies from 0 to n - 1 also where z is negative
abbrev pub modulo : ℤ → ℕ → ℕ
modulo z n = unsigned_abs (int_rem_euclid z (pos n))

-- the bits of z: z modulo 2 to the width
unfoldable pub repr_of : IntKind → ℤ → ℕ
repr_of k z = modulo z (2 ^ width k)

-- the value of the bits b: of a signed kind, those whose highest bit is 1 stand for b - 2 ^ w
unfoldable pub value_of : IntKind → ℕ → ℤ
value_of k b = if is_signed k && nat_le (2 ^ (width k - 1)) b then pos b -ℤ pos (2 ^ width k) else pos b

-- the bits at the kind `to` of the value of the bits b at the kind `from`
abbrev pub cast_of : IntKind → IntKind → ℕ → ℕ
cast_of from to b = repr_of to (value_of from b)
