-- The operators of C on integers. A value is a whole number. `None` stands where C leaves it undefined, but for a left
-- shift of a signed number, which keeps the low bits (`1 << 31`). What C leaves to the implementation is as gcc and clang
-- have it: a conversion out of range takes the low bits, and `>>` of a negative number keeps its sign.
use Rattle.std.specs.Prelude.{ℕ, ◌-◌, ◌^◌, Bool, true, false, not, ℤ, pos, Option, Some, option_map, option_and_then, if◌then◌else◌, bit_xor}
use Rattle.std.specs.Int.{from_bool}
use Rattle.std.specs.Ordering.{int_eq}
use Rattle.floyd_int.specs.declared.kinds.IntKind.{IntKind}
use Rattle.floyd_int.specs.declared.kinds.IntKind.TheVariants.{I32}
use Rattle.floyd_int.specs.declared.kinds.IntOp.{IntOp}
use Rattle.floyd_int.specs.declared.kinds.IntOp.TheVariants.{Shl, Shr}
use Rattle.floyd_int.specs.Kind.{width, repr_of, value_of}
use Rattle.floyd_int.specs.Operation.{operation_of, negation_of, left_shift, right_shift, is_comparison}
use Rattle.floyd_elab_laws.specs.Conversions.{converted, promotion, common_kind}

-- what an expression comes to: its kind, and its value
pub record Number : Type 0 where
  pub kind : IntKind
  pub value : Option ℤ

abbrev pub converted_to : IntKind → Number → Number
converted_to k a = record { kind = k; value = option_map (converted k) a.value }

abbrev pub promote : Number → Number
promote a = converted_to (promotion a.kind) a

-- 1 or 0
abbrev pub truth : Bool → ℤ
truth b = pos (from_bool b)

abbrev pub is_zero : ℤ → Bool
is_zero z = int_eq z (pos 0)

-- the value of an operator on two operands, both of which are evaluated
abbrev pub of_both : (ℤ → ℤ → Option ℤ) → Option ℤ → Option ℤ → Option ℤ
of_both f x y = option_and_then (λ a. option_and_then (f a) y) x

-- Operators on one operand. `-` and `~` promote it; `~` turns each bit round. `!` compares it with 0.

abbrev pub negation : IntKind → ℤ → Option ℤ
negation k x = option_map (value_of k) (negation_of k (repr_of k x))

abbrev pub complement : IntKind → ℤ → Option ℤ
complement k x = Some (value_of k (bit_xor (repr_of k x) (2 ^ width k - 1)))

abbrev pub on_promoted : (IntKind → ℤ → Option ℤ) → Number → Number
on_promoted f a = record { kind = (promote a).kind; value = option_and_then (f (promote a).kind) (promote a).value }

abbrev pub opposite : Number → Number
opposite a = record { kind = I32; value = option_map (λ x. truth (is_zero x)) a.value }

-- Operators on two operands of one kind. A comparison gives an int, and any other operator a value of that kind.

abbrev pub result_kind : IntOp → IntKind → IntKind
result_kind op k = if is_comparison op then I32 else k

abbrev pub operation : IntOp → IntKind → ℤ → ℤ → Option ℤ
operation op k x y = option_map (value_of (result_kind op k)) (operation_of op k (repr_of k x) (repr_of k y))

abbrev pub of_kind : IntOp → IntKind → Number → Number → Number
of_kind op k a b = record { kind = result_kind op k; value = of_both (operation op k) (converted_to k a).value (converted_to k b).value }

-- A shift has the kind of its promoted left operand. The amount is promoted by itself.
abbrev pub shift : (IntKind → ℤ → ℤ → Option ℕ) → IntKind → ℤ → ℤ → Option ℤ
shift f k x y = option_map (value_of k) (f k x y)

abbrev pub shifted : (IntKind → ℤ → ℤ → Option ℕ) → Number → Number → Number
shifted f a b = record { kind = (promote a).kind; value = of_both (shift f (promote a).kind) (promote a).value (promote b).value }

-- any operator between two operands; all but the shifts bring them to their common kind
abbrev pub binary : IntOp → Number → Number → Number
binary Shl a b = shifted left_shift a b
binary Shr a b = shifted right_shift a b
binary op a b = of_kind op (common_kind a.kind b.kind) a b

-- `&&`, `||` and `?:`. What is not needed is not evaluated, and may be undefined.

abbrev pub both_true : Number → Number → Number
both_true a b = record { kind = I32; value = option_and_then (λ x. if is_zero x then Some (truth false) else option_map (λ y. truth (not (is_zero y))) b.value) a.value }

abbrev pub one_true : Number → Number → Number
one_true a b = record { kind = I32; value = option_and_then (λ x. if is_zero x then option_map (λ y. truth (not (is_zero y))) b.value else Some (truth true)) a.value }

abbrev pub chosen : Number → Number → Number → Number
chosen c a b =
    record {
      kind = common_kind a.kind b.kind;
      value = option_and_then (λ x. if is_zero x then (converted_to (common_kind a.kind b.kind) b).value else (converted_to (common_kind a.kind b.kind) a).value) c.value;
    }
