-- Conversions of integers in C, on whole numbers, in the words of the C standard. A conversion to a signed kind that
-- cannot represent the value is left to the implementation: here it takes the low bits.
use Rattle.std.specs.Prelude.{Bool, true, false, ◌&&◌, ℤ, int_le, nat_le, if◌then◌else◌}
use Rattle.floyd_int.specs.declared.kinds.IntKind.{IntKind}
use Rattle.floyd_int.specs.declared.kinds.IntKind.TheVariants.{I8, U8, I16, U16, I32, U32, I64, U64}
use Rattle.floyd_int.specs.Kind.{width, is_signed, least, greatest, repr_of, value_of}
use Rattle.floyd_int.specs.Operation.{is_in_range}

-- A value that the new kind can represent stays as it is. Any other becomes that value of the new kind which differs from
-- it by a multiple of 2 to the width.
abbrev pub converted : IntKind → ℤ → ℤ
converted k z = if is_in_range k z then z else value_of k (repr_of k z)

-- j can represent all values of k
abbrev pub represents_all : IntKind → IntKind → Bool
represents_all j k = int_le (least j) (least k) && int_le (greatest k) (greatest j)

-- The rank of a kind goes by its width: on this target no two kinds of one sign have the same width.
abbrev pub has_greater_rank : IntKind → IntKind → Bool
has_greater_rank j k = if nat_le (width j) (width k) then false else true

-- The integer promotions. A kind whose rank is not greater than that of int becomes int, where int can represent all its
-- values, and else unsigned int. The others stay as they are.
abbrev pub promotion : IntKind → IntKind
promotion k = if has_greater_rank k I32 then k else if represents_all I32 k then I32 else U32

-- the unsigned kind that corresponds to a signed one
abbrev pub unsigned_of : IntKind → IntKind
unsigned_of I8 = U8
unsigned_of U8 = U8
unsigned_of I16 = U16
unsigned_of U16 = U16
unsigned_of I32 = U32
unsigned_of U32 = U32
unsigned_of I64 = U64
unsigned_of U64 = U64

-- Two signed kinds, or two unsigned ones: the kind of greater rank.
abbrev pub of_one_sign : IntKind → IntKind → IntKind
of_one_sign j k = if has_greater_rank j k then j else k

-- A signed and an unsigned kind: the unsigned one, where the rank of the signed one is not greater; else the signed one,
-- where it can represent all values of the unsigned one; else the unsigned kind that corresponds to it.
abbrev pub of_both_signs : IntKind → IntKind → IntKind
of_both_signs s u = if has_greater_rank s u then if represents_all s u then s else unsigned_of s else u

abbrev pub by_signs : Bool → Bool → IntKind → IntKind → IntKind
by_signs true true j k = of_one_sign j k
by_signs true false j k = of_both_signs j k
by_signs false true j k = of_both_signs k j
by_signs false false j k = of_one_sign j k

-- The usual arithmetic conversions: both operands are promoted, and then they get one kind.
abbrev pub common_kind : IntKind → IntKind → IntKind
common_kind j k = by_signs (is_signed (promotion j)) (is_signed (promotion k)) (promotion j) (promotion k)
