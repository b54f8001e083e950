-- The operators of C on the bits of two integers of one kind. `None` stands where C leaves the result undefined.
use Rattle.std.specs.Prelude.{◌≡◌, ℕ, ◌^◌, Bool, true, false, not, ◌&&◌, ◌⊎◌, IsTrue, if◌then◌else◌, ℤ, pos, negsuc, neg_ℤ, ◌+ℤ◌, ◌-ℤ◌, ◌*ℤ◌, ◌≤ℤ◌, ◌<ℤ◌, Option, Some, None, int_lt, int_le, int_div, int_rem, unsigned_abs, bit_and, bit_or, bit_xor}
use Rattle.std.specs.Int.{int_div_euclid, from_bool}
use Rattle.std.specs.Ordering.{int_eq}
use Rattle.floyd_int.specs.declared.kinds.IntKind.{IntKind}
use Rattle.floyd_int.specs.declared.kinds.IntOp.{IntOp}
use Rattle.floyd_int.specs.declared.kinds.IntOp.TheVariants.{Add, Sub, Mul, Div, Rem, And, Or, Xor, Shl, Shr, Eq, Ne, Lt, Le, Gt, Ge}
use Rattle.floyd_int.specs.Kind.{width, is_signed, least, greatest, InRange, repr_of, value_of}

-- z is a value of the kind, as a test
abbrev pub is_in_range : IntKind → ℤ → Bool
is_in_range k z = int_le (least k) z && int_le z (greatest k)

-- a sum, a difference, a product or a negation that is z as a whole number
abbrev pub arithmetic : IntKind → ℤ → Option ℕ
arithmetic k z = if is_signed k && not (is_in_range k z) then None else Some (repr_of k z)

-- C defines `x / y` and `x % y`
abbrev pub can_divide : IntKind → ℤ → ℤ → Bool
can_divide k x y = not (int_eq y (pos 0)) && not (is_signed k && (int_eq x (least k) && int_eq y (negsuc 0)))

-- the quotient is rounded toward zero, and the remainder has the sign of x
abbrev pub quotient : IntKind → ℤ → ℤ → Option ℕ
quotient k x y = if can_divide k x y then Some (repr_of k (int_div x y)) else None

abbrev pub remainder : IntKind → ℤ → ℤ → Option ℕ
remainder k x y = if can_divide k x y then Some (repr_of k (int_rem x y)) else None

-- C defines a shift by y
abbrev pub can_shift : IntKind → ℤ → Bool
can_shift k y = int_le (pos 0) y && int_lt y (pos (width k))

-- x times 2 to the y
abbrev pub left_shift : IntKind → ℤ → ℤ → Option ℕ
left_shift k x y = if can_shift k y then Some (repr_of k (x *ℤ pos (2 ^ unsigned_abs y))) else None

-- x divided by a natural number, rounded down
abbrev pub floor_div : ℤ → ℕ → ℤ
floor_div x n = int_div_euclid x (pos n)

-- x divided by 2 to the y, rounded down
abbrev pub right_shift : IntKind → ℤ → ℤ → Option ℕ
right_shift k x y = if can_shift k y then Some (repr_of k (floor_div x (2 ^ unsigned_abs y))) else None

-- the result at the bits a and b, whose values are x and y
abbrev pub result_of : IntOp → IntKind → ℕ → ℕ → ℤ → ℤ → Option ℕ
result_of Add k a b x y = arithmetic k (x +ℤ y)
result_of Sub k a b x y = arithmetic k (x -ℤ y)
result_of Mul k a b x y = arithmetic k (x *ℤ y)
result_of Div k a b x y = quotient k x y
result_of Rem k a b x y = remainder k x y
result_of And k a b x y = Some (bit_and a b)
result_of Or k a b x y = Some (bit_or a b)
result_of Xor k a b x y = Some (bit_xor a b)
result_of Shl k a b x y = left_shift k x y
result_of Shr k a b x y = right_shift k x y
result_of Eq k a b x y = Some (from_bool (int_eq x y))
result_of Ne k a b x y = Some (from_bool (not (int_eq x y)))
result_of Lt k a b x y = Some (from_bool (int_lt x y))
result_of Le k a b x y = Some (from_bool (int_le x y))
result_of Gt k a b x y = Some (from_bool (int_lt y x))
result_of Ge k a b x y = Some (from_bool (int_le y x))

unfoldable pub operation_of : IntOp → IntKind → ℕ → ℕ → Option ℕ
operation_of op k a b = result_of op k a b (value_of k a) (value_of k b)

unfoldable pub negation_of : IntKind → ℕ → Option ℕ
negation_of k a = arithmetic k (neg_ℤ (value_of k a))

-- arithmetic overflows: the kind is signed, and z is out of its range
abbrev pub Overflows : IntKind → ℤ → Type 0
Overflows k z = IsTrue (is_signed k) × ¬ InRange k z

-- C leaves `x / y` and `x % y` undefined: y is 0, or the least value of a signed kind is divided by -1
abbrev pub IsBadDivision : IntKind → ℤ → ℤ → Type 0
IsBadDivision k x y = (y ≡ pos 0) ⊎ (IsTrue (is_signed k) × (x ≡ least k) × (y ≡ negsuc 0))

-- C leaves a shift by y undefined
abbrev pub IsBadShift : IntKind → ℤ → Type 0
IsBadShift k y = (y <ℤ pos 0) ⊎ (pos (width k) ≤ℤ y)

-- C leaves the operator undefined at the values x and y
abbrev pub IsUndefined : IntOp → IntKind → ℤ → ℤ → Type 0
IsUndefined Add k x y = Overflows k (x +ℤ y)
IsUndefined Sub k x y = Overflows k (x -ℤ y)
IsUndefined Mul k x y = Overflows k (x *ℤ y)
IsUndefined Div k x y = IsBadDivision k x y
IsUndefined Rem k x y = IsBadDivision k x y
IsUndefined And k x y = ⊥
IsUndefined Or k x y = ⊥
IsUndefined Xor k x y = ⊥
IsUndefined Shl k x y = IsBadShift k y
IsUndefined Shr k x y = IsBadShift k y
IsUndefined Eq k x y = ⊥
IsUndefined Ne k x y = ⊥
IsUndefined Lt k x y = ⊥
IsUndefined Le k x y = ⊥
IsUndefined Gt k x y = ⊥
IsUndefined Ge k x y = ⊥

-- the operators that compare
abbrev pub is_comparison : IntOp → Bool
is_comparison Add = false
is_comparison Sub = false
is_comparison Mul = false
is_comparison Div = false
is_comparison Rem = false
is_comparison And = false
is_comparison Or = false
is_comparison Xor = false
is_comparison Shl = false
is_comparison Shr = false
is_comparison Eq = true
is_comparison Ne = true
is_comparison Lt = true
is_comparison Le = true
is_comparison Gt = true
is_comparison Ge = true
