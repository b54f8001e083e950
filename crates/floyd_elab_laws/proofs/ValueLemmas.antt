-- Whole numbers as values of Clight, under casts and operators.
use Rattle.std.proofs.Common.{◌≡◌, ℕ, ◌-◌, ◌^◌, ◌<◌, Bool, true, false, ◌&&◌, not, ℤ, pos, ◌+ℤ◌, ◌-ℤ◌, ◌*ℤ◌, neg_ℤ, Option, Some, None, if◌then◌else◌, refl, sym, ◌∙◌, ap, ap₂, arith, nat_le}
use Rattle.std.proofs.lemmas.Nat.{or_lt, xor_lt}
use Rattle.std.proofs.Math.Pow.{ones_lt}
use Rattle.std.specs.Int.Bits.{and_lt}
use Rattle.std.specs.Int.{from_bool}
use Rattle.std.specs.Ordering.{int_eq}
use Rattle.std.specs.Prelude.{IfSome, option_map, option_and_then, int_div, int_rem, int_lt, int_le, unsigned_abs}
use Rattle.floyd_int.specs.declared.kinds.IntKind.{IntKind}
use Rattle.floyd_int.specs.declared.kinds.IntKind.TheVariants.{I8, U8, I16, U16, I32, U32, I64, U64}
use Rattle.floyd_int.specs.declared.kinds.IntOp.{IntOp}
use Rattle.floyd_int.specs.declared.kinds.IntOp.TheVariants.{Add, Sub, Mul, Div, Rem, And, Or, Xor, Shl, Shr, Eq, Ne, Lt, Le, Gt, Ge}
use Rattle.floyd_int.specs.declared.kinds.Value.TheVariants.{Vint, Vlong}
use Rattle.floyd_int.specs.Kind.{width, is_signed, InRange, repr_of, value_of}
use Rattle.floyd_int.specs.Operation.{is_in_range, arithmetic, can_divide, can_shift, left_shift, right_shift, floor_div, operation_of, negation_of, is_comparison}
use Rattle.floyd_int.proofs.KindLaws.{InRange-value, repr-below, repr-value, value-repr}
use Rattle.floyd_elab_names.specs.Types.{promote, usual, rank}
use Rattle.floyd_clight.specs.declared.syntax.UnaryOp.TheVariants.{Neg, Complement, Not}
use Rattle.floyd_clight_machine.specs.Integers as i
use Rattle.floyd_elab_laws.specs.Conversions.{converted}
use Rattle.floyd_elab_laws.specs.Numbers.{truth, is_zero, negation, complement, result_kind, operation, shift}
use Rattle.floyd_elab_laws.specs.Laws.{value_as}
use Rattle.floyd_elab_laws.proofs.KindLemmas.{converted_is, read_range}

-- ---- bits and values

pub bits_as : (k : IntKind) (z : ℤ) → i.bits_of k (value_as k z) ≡ Some (repr_of (i.read_as k) z)
unfolding repr_of
bits_as I8 z = refl
bits_as U8 z = refl
bits_as I16 z = refl
bits_as U16 z = refl
bits_as I32 z = refl
bits_as U32 z = refl
bits_as I64 z = refl
bits_as U64 z = refl

pub with_as : (k : IntKind) (b : ℕ) → b < 2 ^ width k → i.value_with k b ≡ value_as k (value_of k b)
unfolding repr_of
with_as I8 b h = refl
with_as U8 b h = refl
with_as I16 b h = refl
with_as U16 b h = refl
with_as I32 b h = ap Vint (sym (repr-value I32 b h))
with_as U32 b h = ap Vint (sym (repr-value U32 b h))
with_as I64 b h = ap Vlong (sym (repr-value I64 b h))
with_as U64 b h = ap Vlong (sym (repr-value U64 b h))

pub read_back : (k : IntKind) (z : ℤ) → InRange k z → value_of (i.read_as k) (repr_of (i.read_as k) z) ≡ z
read_back k z h = value-repr (i.read_as k) z (read_range k z h)

pub cast_as : (from to : IntKind) (z : ℤ) → InRange from z → i.cast from to (value_as from z) ≡ Some (value_as to (converted to z))
cast_as from to z h =
    ap (option_map (i.cast_bits from to)) (bits_as from z)
    ∙ ap (λ y. Some (i.value_with to (repr_of to y))) (read_back from z h)
    ∙ ap Some (with_as to (repr_of to z) (repr-below to z) ∙ ap (value_as to) (sym (converted_is to z)))

-- ---- kinds of operands

pub record IsWide (k : IntKind) : Type 0 where
  pub same : i.read_as k ≡ k
  pub common : i.common k k ≡ Some k

pub promoted_wide : (k : IntKind) → IsWide (promote k)
promoted_wide I8 = record { same = refl; common = refl }
promoted_wide U8 = record { same = refl; common = refl }
promoted_wide I16 = record { same = refl; common = refl }
promoted_wide U16 = record { same = refl; common = refl }
promoted_wide I32 = record { same = refl; common = refl }
promoted_wide U32 = record { same = refl; common = refl }
promoted_wide I64 = record { same = refl; common = refl }
promoted_wide U64 = record { same = refl; common = refl }

pub usual_wide : (j k : IntKind) → IsWide (usual j k)
usual_wide j k = by (nat_le (rank (promote j)) (rank (promote k)))
  where
    by : (t : Bool) → IsWide (if t then promote k else promote j)
    by true = promoted_wide k
    by false = promoted_wide j

-- ---- results lie in their kind

abbrev Below : IntKind → Option ℕ → Type 0
Below k o = IfSome o (λ b. b < 2 ^ width k)

unless_below : (k : IntKind) (t : Bool) (z : ℤ) → Below k (if t then None else Some (repr_of k z))
unless_below k true z = tt
unless_below k false z = repr-below k z

where_below : (k : IntKind) (t : Bool) (z : ℤ) → Below k (if t then Some (repr_of k z) else None)
where_below k true z = repr-below k z
where_below k false z = tt

arithmetic_below : (k : IntKind) (z : ℤ) → Below k (arithmetic k z)
arithmetic_below k z = unless_below k (is_signed k && not (is_in_range k z)) z

pub negation_below : (k : IntKind) (a : ℕ) → Below k (negation_of k a)
unfolding negation_of
negation_below k a = arithmetic_below k (neg_ℤ (value_of k a))

pub left_below : (k : IntKind) (x y : ℤ) → Below k (left_shift k x y)
left_below k x y = where_below k (can_shift k y) (x *ℤ pos (2 ^ unsigned_abs y))

pub right_below : (k : IntKind) (x y : ℤ) → Below k (right_shift k x y)
right_below k x y = where_below k (can_shift k y) (floor_div x (2 ^ unsigned_abs y))

test_below : (t : Bool) → from_bool t < 2 ^ 32
test_below true = omega arith
test_below false = omega arith

pub operation_below : (op : IntOp) (k : IntKind) (a b : ℕ) → a < 2 ^ width k → b < 2 ^ width k → Below (result_kind op k) (operation_of op k a b)
unfolding operation_of
operation_below Add k a b h g = arithmetic_below k (value_of k a +ℤ value_of k b)
operation_below Sub k a b h g = arithmetic_below k (value_of k a -ℤ value_of k b)
operation_below Mul k a b h g = arithmetic_below k (value_of k a *ℤ value_of k b)
operation_below Div k a b h g = where_below k (can_divide k (value_of k a) (value_of k b)) (int_div (value_of k a) (value_of k b))
operation_below Rem k a b h g = where_below k (can_divide k (value_of k a) (value_of k b)) (int_rem (value_of k a) (value_of k b))
operation_below And k a b h g = and_lt (width k) a b h g
operation_below Or k a b h g = or_lt (width k) a b h g
operation_below Xor k a b h g = xor_lt (width k) a b h g
operation_below Shl k a b h g = left_below k (value_of k a) (value_of k b)
operation_below Shr k a b h g = right_below k (value_of k a) (value_of k b)
operation_below Eq k a b h g = test_below (int_eq (value_of k a) (value_of k b))
operation_below Ne k a b h g = test_below (not (int_eq (value_of k a) (value_of k b)))
operation_below Lt k a b h g = test_below (int_lt (value_of k a) (value_of k b))
operation_below Le k a b h g = test_below (int_le (value_of k a) (value_of k b))
operation_below Gt k a b h g = test_below (int_lt (value_of k b) (value_of k a))
operation_below Ge k a b h g = test_below (int_le (value_of k b) (value_of k a))

-- bits below 2 to the width have a value of the kind
pub value_range : (k : IntKind) (o : Option ℕ) → Below k o → IfSome (option_map (value_of k) o) (InRange k)
value_range k None h = tt
value_range k (Some b) h = InRange-value k b h

pub values_as : (k : IntKind) (o : Option ℕ) → Below k o → option_map (i.value_with k) o ≡ option_map (value_as k) (option_map (value_of k) o)
values_as k None h = refl
values_as k (Some b) h = ap Some (with_as k b h)

-- ---- operators on one operand

pub minus_as : (k : IntKind) (z : ℤ) → IsWide k → i.unary Neg k (value_as k z) ≡ option_map (value_as k) (negation k z)
minus_as k z w =
    ap (option_and_then (i.on_one Neg (i.read_as k))) (bits_as k z)
    ∙ ap (λ r. i.on_one Neg r (repr_of r z)) w.same
    ∙ values_as k (negation_of k (repr_of k z)) (negation_below k (repr_of k z))

pub turned_below : (k : IntKind) (z : ℤ) → i.complement_of k (repr_of k z) < 2 ^ width k
turned_below k z = xor_lt (width k) (repr_of k z) (2 ^ width k - 1) (repr-below k z) (ones_lt (width k))

pub complement_as : (k : IntKind) (z : ℤ) → IsWide k → i.unary Complement k (value_as k z) ≡ option_map (value_as k) (complement k z)
complement_as k z w =
    ap (option_and_then (i.on_one Complement (i.read_as k))) (bits_as k z)
    ∙ ap (λ r. i.on_one Complement r (repr_of r z)) w.same
    ∙ values_as k (Some (i.complement_of k (repr_of k z))) (turned_below k z)

zero_value : (k : IntKind) → value_of k 0 ≡ pos 0
unfolding value_of
zero_value I8 = refl
zero_value U8 = refl
zero_value I16 = refl
zero_value U16 = refl
zero_value I32 = refl
zero_value U32 = refl
zero_value I64 = refl
zero_value U64 = refl

pub truth_as : (t : Bool) → Vint (from_bool t) ≡ value_as I32 (truth t)
unfolding repr_of
truth_as true = refl
truth_as false = refl

equals_zero : (k : IntKind) (a : ℕ) → i.on_one Not k a ≡ Some (value_as I32 (truth (is_zero (value_of k a))))
unfolding operation_of
equals_zero k a = ap (λ z. Some (Vint (from_bool (int_eq (value_of k a) z)))) (zero_value k) ∙ ap Some (truth_as (is_zero (value_of k a)))

pub opposite_as : (k : IntKind) (z : ℤ) → InRange k z → i.unary Not k (value_as k z) ≡ Some (value_as I32 (truth (is_zero z)))
opposite_as k z h =
    ap (option_and_then (i.on_one Not (i.read_as k))) (bits_as k z)
    ∙ equals_zero (i.read_as k) (repr_of (i.read_as k) z)
    ∙ ap (λ y. Some (value_as I32 (truth (is_zero y)))) (read_back k z h)

-- ---- operators on two operands

result_as : (op : IntOp) (k : IntKind) (b : ℕ) → b < 2 ^ width (result_kind op k) → i.result_with op k b ≡ value_as (result_kind op k) (value_of (result_kind op k) b)
result_as op k b h = by (is_comparison op) h
  where
    by : (t : Bool) → b < 2 ^ width (if t then I32 else k) → (if t then Vint b else i.value_with k b) ≡ value_as (if t then I32 else k) (value_of (if t then I32 else k) b)
    by true g = with_as I32 b g
    by false g = with_as k b g

results_as : (op : IntOp) (k : IntKind) (o : Option ℕ) → Below (result_kind op k) o → option_map (i.result_with op k) o ≡ option_map (value_as (result_kind op k)) (option_map (value_of (result_kind op k)) o)
results_as op k None h = refl
results_as op k (Some b) h = ap Some (result_as op k b h)

-- an operator that is no shift
pub binary_as : (op : IntOp) → ((k l : IntKind) (a b : ℕ) → i.on_bits op k l a b ≡ i.operate op (i.common k l) a b) → (k : IntKind) (x y : ℤ) → IsWide k → i.binary op k k (value_as k x) (value_as k y) ≡ option_map (value_as (result_kind op k)) (operation op k x y)
binary_as op on k x y w =
    ap₂ (λ u v. option_and_then (λ a. option_and_then (i.on_bits op (i.read_as k) (i.read_as k) a) v) u) (bits_as k x) (bits_as k y)
    ∙ ap (λ r. i.on_bits op r r (repr_of r x) (repr_of r y)) w.same
    ∙ on k k (repr_of k x) (repr_of k y)
    ∙ ap (λ c. i.operate op c (repr_of k x) (repr_of k y)) w.common
    ∙ results_as op k (operation_of op k (repr_of k x) (repr_of k y)) (operation_below op k (repr_of k x) (repr_of k y) (repr-below k x) (repr-below k y))

pub operation_range : (op : IntOp) (k : IntKind) (x y : ℤ) → IfSome (operation op k x y) (InRange (result_kind op k))
operation_range op k x y = value_range (result_kind op k) (operation_of op k (repr_of k x) (repr_of k y)) (operation_below op k (repr_of k x) (repr_of k y) (repr-below k x) (repr-below k y))

pub left_as : (k l : IntKind) (x y : ℤ) → IsWide k → InRange k x → InRange l y → i.binary Shl k l (value_as k x) (value_as l y) ≡ option_map (value_as k) (shift left_shift k x y)
left_as k l x y w h g =
    ap₂ (λ u v. option_and_then (λ a. option_and_then (i.on_bits Shl (i.read_as k) (i.read_as l) a) v) u) (bits_as k x) (bits_as l y)
    ∙ ap (λ r. i.left_by r (i.read_as l) (repr_of r x) (repr_of (i.read_as l) y)) w.same
    ∙ ap₂ (λ a b. option_map (i.value_with k) (left_shift k a b)) (value-repr k x h) (read_back l y g)
    ∙ values_as k (left_shift k x y) (left_below k x y)

pub right_as : (k l : IntKind) (x y : ℤ) → IsWide k → InRange k x → InRange l y → i.binary Shr k l (value_as k x) (value_as l y) ≡ option_map (value_as k) (shift right_shift k x y)
right_as k l x y w h g =
    ap₂ (λ u v. option_and_then (λ a. option_and_then (i.on_bits Shr (i.read_as k) (i.read_as l) a) v) u) (bits_as k x) (bits_as l y)
    ∙ ap (λ r. i.right_by r (i.read_as l) (repr_of r x) (repr_of (i.read_as l) y)) w.same
    ∙ ap₂ (λ a b. option_map (i.value_with k) (right_shift k a b)) (value-repr k x h) (read_back l y g)
    ∙ values_as k (right_shift k x y) (right_below k x y)
