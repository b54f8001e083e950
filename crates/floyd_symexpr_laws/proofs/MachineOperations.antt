-- What the machine's operators give of the values of numbers.
use Rattle.std.proofs.Common.{◌≡◌, ℕ, ◌≤◌, Bool, true, false, ℤ, pos, ◌-ℤ◌, arith, Some, refl, sym, ap, ◌∙◌, if◌then◌else◌, lit≤}
use Rattle.std.specs.Prelude.{option_map, option_and_then}
use Rattle.std.specs.Int.{from_bool}
use Rattle.std.specs.Ordering.{int_eq}
use Rattle.floyd_int.specs.declared.kinds.IntKind.{IntKind}
use Rattle.floyd_int.specs.declared.kinds.IntKind.TheVariants.{I8, U8, I16, U16, I32, U32, I64, U64}
use Rattle.floyd_int.specs.declared.kinds.IntOp.{IntOp}
use Rattle.floyd_int.specs.declared.kinds.IntOp.TheVariants.{Shl, Shr, Eq}
use Rattle.floyd_int.specs.declared.kinds.Value.{Value}
use Rattle.floyd_int.specs.declared.kinds.Value.TheVariants.{Vint}
use Rattle.floyd_int.specs.Kind.{width, is_signed, InRange, repr_of, value_of, cast_of}
use Rattle.floyd_int.specs.Operation.{operation_of, is_comparison}
use Rattle.floyd_int.proofs.KindLaws.{value-unsigned}
use Rattle.floyd_clight.specs.declared.syntax.UnaryOp.TheVariants.{Neg, Complement, Not}
use Rattle.floyd_clight_machine.specs.Integers.{read_as, bits_of, value_with, common, operate, on_bits, unary, binary, cast, cast_bits, on_one, result_with, number_of}
use Rattle.floyd_tree_sorts.specs.declared.heads.Width.TheVariants.{Bits8, Bits16}
use Rattle.floyd_tree_values.specs.Numbers.{shl, shr, bnot, signed, unsigned}
use Rattle.floyd_tree_values.specs.Values.{vint, vlong}
use Rattle.floyd_symexpr_rows.specs.Rows.{is_long}
use Rattle.floyd_symexpr_laws.proofs.Ranges.{fewer_bits, range_read, reads_back, wide_read}
use Rattle.floyd_symexpr_laws.proofs.Operations.{Shifts, neg_is, shl_is, shr_is, eq_is}
use Rattle.floyd_symexpr_laws.proofs.BitOperations.{not_is}

-- the value of a kind that a number stands for
abbrev pub value_for : IntKind → ℤ → Value
value_for k z = if is_long k then vlong z else vint z

bits_for : (k : IntKind) (z : ℤ) → bits_of k (value_for k z) ≡ Some (repr_of (read_as k) z)
unfolding repr_of
bits_for I8 z = refl
bits_for U8 z = refl
bits_for I16 z = refl
bits_for U16 z = refl
bits_for I32 z = refl
bits_for U32 z = refl
bits_for I64 z = refl
bits_for U64 z = refl

with_bits : (k : IntKind) (z : ℤ) → value_with (read_as k) (repr_of (read_as k) z) ≡ value_for k z
unfolding repr_of
with_bits I8 z = refl
with_bits U8 z = refl
with_bits I16 z = refl
with_bits U16 z = refl
with_bits I32 z = refl
with_bits U32 z = refl
with_bits I64 z = refl
with_bits U64 z = refl

one_kind : (k : IntKind) → common (read_as k) (read_as k) ≡ Some (read_as k)
one_kind I8 = refl
one_kind U8 = refl
one_kind I16 = refl
one_kind U16 = refl
one_kind I32 = refl
one_kind U32 = refl
one_kind I64 = refl
one_kind U64 = refl

-- the whole number that a number's value stands for is itself
pub number_for : (k : IntKind) (z : ℤ) → InRange k z → number_of k (value_for k z) ≡ Some z
number_for k z h = ap (option_map (value_of (read_as k))) (bits_for k z) ∙ ap Some (reads_back k z h)

-- ---- operators on two numbers

on_both : (op : IntOp) (j k : IntKind) (x y : ℤ) → binary op j k (value_for j x) (value_for k y) ≡ on_bits op (read_as j) (read_as k) (repr_of (read_as j) x) (repr_of (read_as k) y)
on_both op j k x y =
    ap (option_and_then (λ a. option_and_then (on_bits op (read_as j) (read_as k) a) (bits_of k (value_for k y)))) (bits_for j x)
    ∙ ap (option_and_then (on_bits op (read_as j) (read_as k) (repr_of (read_as j) x))) (bits_for k y)

-- the operator takes operands of one kind
abbrev pub Unshifted : IntOp → IntKind → Type 0
Unshifted op k = (a b : ℕ) → on_bits op k k a b ≡ operate op (common k k) a b

operated : (op : IntOp) (k : IntKind) (x y : ℤ) (c : ℕ) → Unshifted op (read_as k) → operation_of op (read_as k) (repr_of (read_as k) x) (repr_of (read_as k) y) ≡ Some c → binary op k k (value_for k x) (value_for k y) ≡ Some (result_with op (read_as k) c)
operated op k x y c plain e =
    on_both op k k x y ∙ plain (repr_of (read_as k) x) (repr_of (read_as k) y)
    ∙ ap (λ o. operate op o (repr_of (read_as k) x) (repr_of (read_as k) y)) (one_kind k)
    ∙ ap (option_map (result_with op (read_as k))) e

-- a number is the result
pub gives_number : (op : IntOp) (k : IntKind) (x y z : ℤ) → Unshifted op (read_as k) → is_comparison op ≡ false → operation_of op (read_as k) (repr_of (read_as k) x) (repr_of (read_as k) y) ≡ Some (repr_of (read_as k) z) → binary op k k (value_for k x) (value_for k y) ≡ Some (value_for k z)
gives_number op k x y z plain c e =
    operated op k x y (repr_of (read_as k) z) plain e
    ∙ ap (λ (t : Bool). Some (if t then Vint (repr_of (read_as k) z) else value_with (read_as k) (repr_of (read_as k) z))) c
    ∙ ap Some (with_bits k z)

-- a truth value is
pub gives_truth : (op : IntOp) (k : IntKind) (x y : ℤ) (b : Bool) → Unshifted op (read_as k) → is_comparison op ≡ true → operation_of op (read_as k) (repr_of (read_as k) x) (repr_of (read_as k) y) ≡ Some (from_bool b) → binary op k k (value_for k x) (value_for k y) ≡ Some (Vint (from_bool b))
gives_truth op k x y b plain c e =
    operated op k x y (from_bool b) plain e
    ∙ ap (λ (t : Bool). Some (if t then Vint (from_bool b) else value_with (read_as k) (from_bool b))) c

pub gives_left : (j k : IntKind) (x y : ℤ) → Shifts (read_as j) (read_as k) x y → binary Shl j k (value_for j x) (value_for k y) ≡ Some (value_for j (shl x y))
gives_left j k x y h =
    on_both Shl j k x y ∙ ap (option_map (value_with (read_as j))) (shl_is (read_as j) (read_as k) x y h) ∙ ap Some (with_bits j (shl x y))

pub gives_right : (j k : IntKind) (x y : ℤ) → Shifts (read_as j) (read_as k) x y → binary Shr j k (value_for j x) (value_for k y) ≡ Some (value_for j (shr x y))
gives_right j k x y h =
    on_both Shr j k x y ∙ ap (option_map (value_with (read_as j))) (shr_is (read_as j) (read_as k) x y h) ∙ ap Some (with_bits j (shr x y))

-- ---- operators on one number

pub gives_negation : (k : IntKind) (x : ℤ) → (is_signed (read_as k) ≡ true → InRange (read_as k) x × InRange (read_as k) (pos 0 -ℤ x)) → unary Neg k (value_for k x) ≡ Some (value_for k (pos 0 -ℤ x))
gives_negation k x h =
    ap (option_and_then (on_one Neg (read_as k))) (bits_for k x)
    ∙ ap (option_map (value_with (read_as k))) (neg_is (read_as k) x h) ∙ ap Some (with_bits k (pos 0 -ℤ x))

pub gives_complement : (k : IntKind) (x : ℤ) → unary Complement k (value_for k x) ≡ Some (value_for k (bnot x))
gives_complement k x =
    ap (option_and_then (on_one Complement (read_as k))) (bits_for k x)
    ∙ ap (λ b. Some (value_with (read_as k) b)) (not_is (read_as k) x) ∙ ap Some (with_bits k (bnot x))

zero_bits : (k : IntKind) → repr_of (read_as k) (pos 0) ≡ 0
unfolding repr_of
zero_bits I8 = refl
zero_bits U8 = refl
zero_bits I16 = refl
zero_bits U16 = refl
zero_bits I32 = refl
zero_bits U32 = refl
zero_bits I64 = refl
zero_bits U64 = refl

-- `!a` is `a == 0`
pub gives_zero_test : (k : IntKind) (x : ℤ) → InRange k x → InRange k (pos 0) → unary Not k (value_for k x) ≡ Some (Vint (from_bool (int_eq x (pos 0))))
gives_zero_test k x h g =
    ap (option_and_then (on_one Not (read_as k))) (bits_for k x)
    ∙ ap (λ b. option_map Vint (operation_of Eq (read_as k) (repr_of (read_as k) x) b)) (sym (zero_bits k))
    ∙ ap (option_map Vint) (eq_is (read_as k) x (pos 0) (range_read k x h) (range_read k (pos 0) g))

-- ---- casts

cast_to : (from to : IntKind) (x : ℤ) → cast from to (value_for from x) ≡ Some (cast_bits from to (repr_of (read_as from) x))
cast_to from to x = ap (option_map (cast_bits from to)) (bits_for from x)

-- the bits at a kind of up to 32 bits
short_bits : (from to : IntKind) (x : ℤ) → width to ≤ 32 → cast_of (read_as from) to (repr_of (read_as from) x) ≡ repr_of to x
short_bits from to x h = fewer_bits to (read_as from) x (below (width to) 32 (width (read_as from)) h (wide_read from))
  where
    below : (a b c : ℕ) → a ≤ b → b ≤ c → a ≤ c
    below a b c f g = omega arith

gives_short : (from to : IntKind) (x : ℤ) → width to ≤ 32 → cast from to (value_for from x) ≡ Some (value_with to (repr_of to x))
gives_short from to x h = cast_to from to x ∙ ap (λ b. Some (value_with to b)) (short_bits from to x h)

pub gives_i8 : (from : IntKind) (x : ℤ) → cast from I8 (value_for from x) ≡ Some (vint (signed Bits8 x))
unfolding repr_of
gives_i8 from x = gives_short from I8 x (lit≤ tt)

pub gives_i16 : (from : IntKind) (x : ℤ) → cast from I16 (value_for from x) ≡ Some (vint (signed Bits16 x))
unfolding repr_of
gives_i16 from x = gives_short from I16 x (lit≤ tt)

pub gives_u8 : (from : IntKind) (x : ℤ) → cast from U8 (value_for from x) ≡ Some (vint (unsigned Bits8 x))
unfolding repr_of
gives_u8 from x = gives_short from U8 x (lit≤ tt) ∙ ap (λ z. Some (Vint (repr_of I32 z))) (value-unsigned U8 (repr_of U8 x) refl)

pub gives_u16 : (from : IntKind) (x : ℤ) → cast from U16 (value_for from x) ≡ Some (vint (unsigned Bits16 x))
unfolding repr_of
gives_u16 from x = gives_short from U16 x (lit≤ tt) ∙ ap (λ z. Some (Vint (repr_of I32 z))) (value-unsigned U16 (repr_of U16 x) refl)

pub gives_i32 : (from : IntKind) (x : ℤ) → cast from I32 (value_for from x) ≡ Some (vint x)
unfolding repr_of
gives_i32 from x = gives_short from I32 x (lit≤ tt)

pub gives_u32 : (from : IntKind) (x : ℤ) → cast from U32 (value_for from x) ≡ Some (vint x)
unfolding repr_of
gives_u32 from x = gives_short from U32 x (lit≤ tt)

long_bits : (from : IntKind) (x : ℤ) → is_long from ≡ true → 64 ≤ width (read_as from)
long_bits I8 x e = absurd cc
long_bits U8 x e = absurd cc
long_bits I16 x e = absurd cc
long_bits U16 x e = absurd cc
long_bits I32 x e = absurd cc
long_bits U32 x e = absurd cc
long_bits I64 x e = lit≤ tt
long_bits U64 x e = lit≤ tt

-- a number is read as itself, or has as many bits
wide_bits : (from to : IntKind) (x : ℤ) → width to ≤ 64 → (is_long from ≡ false → InRange from x) → cast_of (read_as from) to (repr_of (read_as from) x) ≡ repr_of to x
wide_bits from to x within h = by (is_long from) refl
  where
    below : (a b c : ℕ) → a ≤ b → b ≤ c → a ≤ c
    below a b c f g = omega arith

    by : (b : Bool) → is_long from ≡ b → repr_of to (value_of (read_as from) (repr_of (read_as from) x)) ≡ repr_of to x
    by true e = fewer_bits to (read_as from) x (below (width to) 64 (width (read_as from)) within (long_bits from x e))
    by false e = ap (repr_of to) (reads_back from x (h e))

pub gives_i64 : (from : IntKind) (x : ℤ) → (is_long from ≡ false → InRange from x) → cast from I64 (value_for from x) ≡ Some (vlong x)
unfolding repr_of
gives_i64 from x h = cast_to from I64 x ∙ ap (λ b. Some (value_with I64 b)) (wide_bits from I64 x (lit≤ tt) h)

pub gives_u64 : (from : IntKind) (x : ℤ) → (is_long from ≡ false → InRange from x) → cast from U64 (value_for from x) ≡ Some (vlong x)
unfolding repr_of
gives_u64 from x h = cast_to from U64 x ∙ ap (λ b. Some (value_with U64 b)) (wide_bits from U64 x (lit≤ tt) h)
