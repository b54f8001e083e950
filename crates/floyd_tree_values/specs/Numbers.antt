-- Operators on whole numbers without bound.
use Rattle.std.specs.Prelude.{ℕ, ◌^◌, Bool, true, false, if◌then◌else◌, ℤ, pos, negsuc, ◌*ℤ◌, int_lt, int_le, int_div, int_rem, bit_and, bit_or, bit_xor}
use Rattle.std.specs.Ordering.{int_eq}
use Rattle.floyd_int.specs.declared.kinds.IntKind.{IntKind}
use Rattle.floyd_int.specs.declared.kinds.IntKind.TheVariants.{I8, I16, I32, I64}
use Rattle.floyd_int.specs.Kind.{modulo, repr_of, value_of}
use Rattle.floyd_int.specs.Operation.{floor_div}
use Rattle.floyd_tree_sorts.specs.declared.heads.Width.{Width}
use Rattle.floyd_tree_sorts.specs.declared.heads.Width.TheVariants.{Bits8, Bits16, Bits32, Bits64}
use Rattle.floyd_tree_sorts.specs.Prints.{width_number}

-- rounded toward zero; 0 where y is 0
abbrev pub quot : ℤ → ℤ → ℤ
quot x y = if int_eq y (pos 0) then pos 0 else int_div x y

-- what the rounded quotient leaves, with the sign of x; 0 where y is 0
abbrev pub rem : ℤ → ℤ → ℤ
rem x y = if int_eq y (pos 0) then pos 0 else int_rem x y

abbrev pub signed_kind : Width → IntKind
signed_kind Bits8 = I8
signed_kind Bits16 = I16
signed_kind Bits32 = I32
signed_kind Bits64 = I64

-- z modulo 2 to the width, read in two's complement
abbrev pub signed : Width → ℤ → ℤ
signed w z = value_of (signed_kind w) (repr_of (signed_kind w) z)

-- z modulo 2 to the width
abbrev pub unsigned : Width → ℤ → ℤ
unsigned w z = pos (modulo z (2 ^ width_number w))

-- Bits are those of two's complement without end. Those of -(n + 1) are the bits of n with each one turned over.
abbrev pub bnot : ℤ → ℤ
bnot (pos n) = negsuc n
bnot (negsuc n) = pos n

-- the bits of m that n does not have
abbrev pub bits_without : ℕ → ℕ → ℕ
bits_without m n = bit_xor m (bit_and m n)

abbrev pub band : ℤ → ℤ → ℤ
band (pos m) (pos n) = pos (bit_and m n)
band (pos m) (negsuc n) = pos (bits_without m n)
band (negsuc m) (pos n) = pos (bits_without n m)
band (negsuc m) (negsuc n) = negsuc (bit_or m n)

abbrev pub bor : ℤ → ℤ → ℤ
bor x y = bnot (band (bnot x) (bnot y))

abbrev pub bxor : ℤ → ℤ → ℤ
bxor (pos m) (pos n) = pos (bit_xor m n)
bxor (pos m) (negsuc n) = negsuc (bit_xor m n)
bxor (negsuc m) (pos n) = negsuc (bit_xor m n)
bxor (negsuc m) (negsuc n) = pos (bit_xor m n)

-- x times 2 to the y; 0 where y is negative
abbrev pub shl : ℤ → ℤ → ℤ
shl x (pos n) = x *ℤ pos (2 ^ n)
shl x (negsuc n) = pos 0

-- x divided by 2 to the y, rounded down; 0 where y is negative
abbrev pub shr : ℤ → ℤ → ℤ
shr x (pos n) = floor_div x (2 ^ n)
shr x (negsuc n) = pos 0

abbrev pub one_if : Bool → ℤ
one_if true = pos 1
one_if false = pos 0

-- 1 where x = y, x < y or x <= y, and else 0
abbrev pub eqz : ℤ → ℤ → ℤ
eqz x y = one_if (int_eq x y)

abbrev pub ltz : ℤ → ℤ → ℤ
ltz x y = one_if (int_lt x y)

abbrev pub lez : ℤ → ℤ → ℤ
lez x y = one_if (int_le x y)
