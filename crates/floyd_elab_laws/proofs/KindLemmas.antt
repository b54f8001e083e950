-- Kinds: promotions and usual conversions as typing has them, and what conversions keep.
use Rattle.std.proofs.Common.{◌≡◌, ℕ, Bool, true, false, ℤ, if◌then◌else◌, refl, sym, ◌∙◌, ap, subst, arith, eqb-true}
use Rattle.std.proofs.lemmas.Bool.{and_parts}
use Rattle.std.proofs.lemmas.Int.{ints}
use Rattle.std.specs.Prelude.{◌==◌}
use Rattle.floyd_int.specs.declared.kinds.IntKind.{IntKind}
use Rattle.floyd_int.specs.declared.kinds.IntKind.TheVariants.{I8, U8, I16, U16, I32, U32, I64, U64}
use Rattle.floyd_int.specs.Kind.{width, is_signed, InRange, repr_of, value_of}
use Rattle.floyd_int.specs.Operation.{is_in_range}
use Rattle.floyd_int.proofs.KindLaws.{InRange-value, repr-below, value-repr}
use Rattle.floyd_int.proofs.OperationLaws.{InRange-true}
use Rattle.floyd_elab_names.specs.Types.{promote, usual, same_kind, same_sign}
use Rattle.floyd_clight_machine.specs.Integers.{read_as}
use Rattle.floyd_elab_laws.specs.Conversions.{converted, promotion, common_kind}

-- ---- conversions

pub converted_is : (k : IntKind) (z : ℤ) → converted k z ≡ value_of k (repr_of k z)
converted_is k z = by (is_in_range k z) refl
  where
    by : (t : Bool) → is_in_range k z ≡ t → (if t then z else value_of k (repr_of k z)) ≡ value_of k (repr_of k z)
    by true e = sym (value-repr k z (InRange-true k z e))
    by false e = refl

pub converted_same : (k : IntKind) (z : ℤ) → InRange k z → converted k z ≡ z
converted_same k z h = converted_is k z ∙ value-repr k z h

pub converted_range : (k : IntKind) (z : ℤ) → InRange k (converted k z)
converted_range k z = subst (InRange k) (sym (converted_is k z)) (InRange-value k (repr_of k z) (repr-below k z))

-- ---- kinds of operands

pub promotion_is : (k : IntKind) → promotion k ≡ promote k
promotion_is I8 = refl
promotion_is U8 = refl
promotion_is I16 = refl
promotion_is U16 = refl
promotion_is I32 = refl
promotion_is U32 = refl
promotion_is I64 = refl
promotion_is U64 = refl

pub common_is : (j k : IntKind) → common_kind j k ≡ usual j k
common_is I8 I8 = refl
common_is I8 U8 = refl
common_is I8 I16 = refl
common_is I8 U16 = refl
common_is I8 I32 = refl
common_is I8 U32 = refl
common_is I8 I64 = refl
common_is I8 U64 = refl
common_is U8 I8 = refl
common_is U8 U8 = refl
common_is U8 I16 = refl
common_is U8 U16 = refl
common_is U8 I32 = refl
common_is U8 U32 = refl
common_is U8 I64 = refl
common_is U8 U64 = refl
common_is I16 I8 = refl
common_is I16 U8 = refl
common_is I16 I16 = refl
common_is I16 U16 = refl
common_is I16 I32 = refl
common_is I16 U32 = refl
common_is I16 I64 = refl
common_is I16 U64 = refl
common_is U16 I8 = refl
common_is U16 U8 = refl
common_is U16 I16 = refl
common_is U16 U16 = refl
common_is U16 I32 = refl
common_is U16 U32 = refl
common_is U16 I64 = refl
common_is U16 U64 = refl
common_is I32 I8 = refl
common_is I32 U8 = refl
common_is I32 I16 = refl
common_is I32 U16 = refl
common_is I32 I32 = refl
common_is I32 U32 = refl
common_is I32 I64 = refl
common_is I32 U64 = refl
common_is U32 I8 = refl
common_is U32 U8 = refl
common_is U32 I16 = refl
common_is U32 U16 = refl
common_is U32 I32 = refl
common_is U32 U32 = refl
common_is U32 I64 = refl
common_is U32 U64 = refl
common_is I64 I8 = refl
common_is I64 U8 = refl
common_is I64 I16 = refl
common_is I64 U16 = refl
common_is I64 I32 = refl
common_is I64 U32 = refl
common_is I64 I64 = refl
common_is I64 U64 = refl
common_is U64 I8 = refl
common_is U64 U8 = refl
common_is U64 I16 = refl
common_is U64 U16 = refl
common_is U64 I32 = refl
common_is U64 U32 = refl
common_is U64 I64 = refl
common_is U64 U64 = refl

-- each value of a kind is one of its promoted kind, and of the kind with which it is read
pub promotion_range : (k : IntKind) (z : ℤ) → InRange k z → InRange (promote k) z
promotion_range I8 z h = record { from_least = omega (arith, ints, h.from_least); to_greatest = omega (arith, ints, h.to_greatest) }
promotion_range U8 z h = record { from_least = omega (arith, ints, h.from_least); to_greatest = omega (arith, ints, h.to_greatest) }
promotion_range I16 z h = record { from_least = omega (arith, ints, h.from_least); to_greatest = omega (arith, ints, h.to_greatest) }
promotion_range U16 z h = record { from_least = omega (arith, ints, h.from_least); to_greatest = omega (arith, ints, h.to_greatest) }
promotion_range I32 z h = h
promotion_range U32 z h = h
promotion_range I64 z h = h
promotion_range U64 z h = h

pub read_range : (k : IntKind) (z : ℤ) → InRange k z → InRange (read_as k) z
read_range I8 z h = record { from_least = omega (arith, ints, h.from_least); to_greatest = omega (arith, ints, h.to_greatest) }
read_range U8 z h = record { from_least = omega (arith, ints, h.from_least); to_greatest = omega (arith, ints, h.to_greatest) }
read_range I16 z h = record { from_least = omega (arith, ints, h.from_least); to_greatest = omega (arith, ints, h.to_greatest) }
read_range U16 z h = record { from_least = omega (arith, ints, h.from_least); to_greatest = omega (arith, ints, h.to_greatest) }
read_range I32 z h = h
read_range U32 z h = h
read_range I64 z h = h
read_range U64 z h = h

-- ---- a width and a sign make a kind

kind_from : ℕ → Bool → IntKind
kind_from w s = if w == 8 then if s then I8 else U8 else if w == 16 then if s then I16 else U16 else if w == 32 then if s then I32 else U32 else if s then I64 else U64

kind_from_is : (k : IntKind) → kind_from (width k) (is_signed k) ≡ k
unfolding kind_from
kind_from_is I8 = refl
kind_from_is U8 = refl
kind_from_is I16 = refl
kind_from_is U16 = refl
kind_from_is I32 = refl
kind_from_is U32 = refl
kind_from_is I64 = refl
kind_from_is U64 = refl

same_sign_is : (a b : Bool) → same_sign a b ≡ true → a ≡ b
same_sign_is true true e = refl
same_sign_is true false e = sym e
same_sign_is false true e = e
same_sign_is false false e = refl

pub same_kind_is : (j k : IntKind) → same_kind j k ≡ true → j ≡ k
same_kind_is j k e =
    let parts = and_parts _ _ e in
    sym (kind_from_is j) ∙ ap (λ w. kind_from w (is_signed j)) (eqb-true _ _ parts.0) ∙ ap (kind_from (width k)) (same_sign_is (is_signed j) (is_signed k) parts.1) ∙ kind_from_is k
