-- The operators of the machine on the bits of numbers give the bits of what the operators on numbers give.
use Rattle.std.proofs.Common.{◌≡◌, Bool, true, false, not, ℤ, pos, negsuc, ◌+ℤ◌, ◌-ℤ◌, ◌*ℤ◌, neg_ℤ, ◌≤ℤ◌, Some, if◌then◌else◌, refl, ap, ap₂, ◌∙◌, arith}
use Rattle.std.specs.Prelude.{int_div, int_rem, int_lt, int_le}
use Rattle.std.specs.Int.{from_bool}
use Rattle.std.specs.Ordering.{int_eq}
use Rattle.std.proofs.lemmas.Int.{ints}
use Rattle.std.proofs.lemmas.Bool.Decides.{Decides-int_eq}
use Rattle.floyd_int.specs.declared.kinds.IntKind.{IntKind}
use Rattle.floyd_int.specs.declared.kinds.IntOp.TheVariants.{Add, Sub, Mul, Div, Rem, Eq, Ne, Lt, Le, Gt, Ge}
use Rattle.floyd_int.specs.Kind.{width, is_signed, InRange, repr_of, value_of}
use Rattle.floyd_int.specs.Operation.{arithmetic, quotient, remainder, left_shift, right_shift, operation_of, negation_of, IsBadDivision}
use Rattle.floyd_int.proofs.KindLaws.{repr-add, repr-sub, repr-mul, repr-neg, value-repr}
use Rattle.floyd_int.proofs.OperationLaws.{arithmetic-in_range, arithmetic-unsigned, quotient-defined, remainder-defined, left_shift-defined, right_shift-defined}
use Rattle.floyd_tree_values.specs.Numbers.{quot, rem, shl, shr}
use Rattle.floyd_symexpr_laws.proofs.Ranges.{same_bits}

-- operands and the result of a signed kind are in its range
abbrev pub NoOverflow : IntKind → ℤ → ℤ → ℤ → Type 0
NoOverflow k x y z = is_signed k ≡ true → InRange k x × InRange k y × InRange k z

-- an operator under which bits depend on bits alone
by_bits : (k : IntKind) (f : ℤ → ℤ → ℤ) (x y : ℤ) → ((a a' b b' : ℤ) → repr_of k a ≡ repr_of k a' → repr_of k b ≡ repr_of k b' → repr_of k (f a b) ≡ repr_of k (f a' b')) → NoOverflow k x y (f x y) → arithmetic k (f (value_of k (repr_of k x)) (value_of k (repr_of k y))) ≡ Some (repr_of k (f x y))
by_bits k f x y same h = by (is_signed k) refl
  where
    by : (s : Bool) → is_signed k ≡ s → arithmetic k (f (value_of k (repr_of k x)) (value_of k (repr_of k y))) ≡ Some (repr_of k (f x y))
    by true e =
        let p = h e in
        ap₂ (λ a b. arithmetic k (f a b)) (value-repr k x p.0) (value-repr k y p.1) ∙ arithmetic-in_range k (f x y) p.2
    by false e =
        arithmetic-unsigned k (f (value_of k (repr_of k x)) (value_of k (repr_of k y))) e
        ∙ ap Some (same (value_of k (repr_of k x)) x (value_of k (repr_of k y)) y (same_bits k x) (same_bits k y))

pub add_is : (k : IntKind) (x y : ℤ) → NoOverflow k x y (x +ℤ y) → operation_of Add k (repr_of k x) (repr_of k y) ≡ Some (repr_of k (x +ℤ y))
unfolding operation_of
add_is k x y h = by_bits k (λ a b. a +ℤ b) x y (repr-add k) h

pub sub_is : (k : IntKind) (x y : ℤ) → NoOverflow k x y (x -ℤ y) → operation_of Sub k (repr_of k x) (repr_of k y) ≡ Some (repr_of k (x -ℤ y))
unfolding operation_of
sub_is k x y h = by_bits k (λ a b. a -ℤ b) x y (repr-sub k) h

pub mul_is : (k : IntKind) (x y : ℤ) → NoOverflow k x y (x *ℤ y) → operation_of Mul k (repr_of k x) (repr_of k y) ≡ Some (repr_of k (x *ℤ y))
unfolding operation_of
mul_is k x y h = by_bits k (λ a b. a *ℤ b) x y (repr-mul k) h

from_zero : (x : ℤ) → neg_ℤ x ≡ pos 0 -ℤ x
from_zero x = omega (arith, ints)

pub neg_is : (k : IntKind) (x : ℤ) → (is_signed k ≡ true → InRange k x × InRange k (pos 0 -ℤ x)) → negation_of k (repr_of k x) ≡ Some (repr_of k (pos 0 -ℤ x))
unfolding negation_of
neg_is k x h = by (is_signed k) refl
  where
    by : (s : Bool) → is_signed k ≡ s → arithmetic k (neg_ℤ (value_of k (repr_of k x))) ≡ Some (repr_of k (pos 0 -ℤ x))
    by true e =
        let p = h e in
        ap (λ a. arithmetic k (neg_ℤ a)) (value-repr k x p.0) ∙ ap (arithmetic k) (from_zero x) ∙ arithmetic-in_range k (pos 0 -ℤ x) p.1
    by false e =
        arithmetic-unsigned k (neg_ℤ (value_of k (repr_of k x))) e
        ∙ ap Some (repr-neg k (value_of k (repr_of k x)) x (same_bits k x) ∙ ap (repr_of k) (from_zero x))

-- ---- division

quot_is : (x y : ℤ) → ¬ (y ≡ pos 0) → int_div x y ≡ quot x y
quot_is x y h = by (int_eq y (pos 0)) refl
  where
    by : (b : Bool) → int_eq y (pos 0) ≡ b → int_div x y ≡ (if b then pos 0 else int_div x y)
    by true e = absurd (h ((Decides-int_eq y (pos 0)).0 e))
    by false e = refl

rem_is : (x y : ℤ) → ¬ (y ≡ pos 0) → int_rem x y ≡ rem x y
rem_is x y h = by (int_eq y (pos 0)) refl
  where
    by : (b : Bool) → int_eq y (pos 0) ≡ b → int_rem x y ≡ (if b then pos 0 else int_rem x y)
    by true e = absurd (h ((Decides-int_eq y (pos 0)).0 e))
    by false e = refl

-- what may be divided
pub record Divides (k : IntKind) (x y : ℤ) : Type 0 where
  pub left : InRange k x
  pub right : InRange k y
  pub some : ¬ (y ≡ pos 0)
  pub fits : ¬ IsBadDivision k x y

pub div_is : (k : IntKind) (x y : ℤ) → Divides k x y → operation_of Div k (repr_of k x) (repr_of k y) ≡ Some (repr_of k (quot x y))
unfolding operation_of
div_is k x y h =
    ap₂ (quotient k) (value-repr k x h.left) (value-repr k y h.right) ∙ quotient-defined k x y h.fits ∙ ap (λ z. Some (repr_of k z)) (quot_is x y h.some)

pub mod_is : (k : IntKind) (x y : ℤ) → Divides k x y → operation_of Rem k (repr_of k x) (repr_of k y) ≡ Some (repr_of k (rem x y))
unfolding operation_of
mod_is k x y h =
    ap₂ (remainder k) (value-repr k x h.left) (value-repr k y h.right) ∙ remainder-defined k x y h.fits ∙ ap (λ z. Some (repr_of k z)) (rem_is x y h.some)

-- ---- shifts

-- what may be shifted, by an amount of a kind of its own
pub record Shifts (k l : IntKind) (x y : ℤ) : Type 0 where
  pub left : InRange k x
  pub right : InRange l y
  pub some : pos 0 ≤ℤ y
  pub fits : (y +ℤ pos 1) ≤ℤ pos (width k)

shifts_left : (k : IntKind) (x y : ℤ) → pos 0 ≤ℤ y → (y +ℤ pos 1) ≤ℤ pos (width k) → left_shift k x y ≡ Some (repr_of k (shl x y))
shifts_left k x (pos n) h g = left_shift-defined k x n (omega (arith, ints, g))
shifts_left k x (negsuc n) h g = absurd (omega (arith, ints, h))

shifts_right : (k : IntKind) (x y : ℤ) → pos 0 ≤ℤ y → (y +ℤ pos 1) ≤ℤ pos (width k) → right_shift k x y ≡ Some (repr_of k (shr x y))
shifts_right k x (pos n) h g = right_shift-defined k x n (omega (arith, ints, g))
shifts_right k x (negsuc n) h g = absurd (omega (arith, ints, h))

pub shl_is : (k l : IntKind) (x y : ℤ) → Shifts k l x y → left_shift k (value_of k (repr_of k x)) (value_of l (repr_of l y)) ≡ Some (repr_of k (shl x y))
shl_is k l x y h = ap₂ (left_shift k) (value-repr k x h.left) (value-repr l y h.right) ∙ shifts_left k x y h.some h.fits

pub shr_is : (k l : IntKind) (x y : ℤ) → Shifts k l x y → right_shift k (value_of k (repr_of k x)) (value_of l (repr_of l y)) ≡ Some (repr_of k (shr x y))
shr_is k l x y h = ap₂ (right_shift k) (value-repr k x h.left) (value-repr l y h.right) ∙ shifts_right k x y h.some h.fits

-- ---- comparisons

pub eq_is : (k : IntKind) (x y : ℤ) → InRange k x → InRange k y → operation_of Eq k (repr_of k x) (repr_of k y) ≡ Some (from_bool (int_eq x y))
unfolding operation_of
eq_is k x y h g = ap₂ (λ a b. Some (from_bool (int_eq a b))) (value-repr k x h) (value-repr k y g)

pub ne_is : (k : IntKind) (x y : ℤ) → InRange k x → InRange k y → operation_of Ne k (repr_of k x) (repr_of k y) ≡ Some (from_bool (not (int_eq x y)))
unfolding operation_of
ne_is k x y h g = ap₂ (λ a b. Some (from_bool (not (int_eq a b)))) (value-repr k x h) (value-repr k y g)

pub lt_is : (k : IntKind) (x y : ℤ) → InRange k x → InRange k y → operation_of Lt k (repr_of k x) (repr_of k y) ≡ Some (from_bool (int_lt x y))
unfolding operation_of
lt_is k x y h g = ap₂ (λ a b. Some (from_bool (int_lt a b))) (value-repr k x h) (value-repr k y g)

pub le_is : (k : IntKind) (x y : ℤ) → InRange k x → InRange k y → operation_of Le k (repr_of k x) (repr_of k y) ≡ Some (from_bool (int_le x y))
unfolding operation_of
le_is k x y h g = ap₂ (λ a b. Some (from_bool (int_le a b))) (value-repr k x h) (value-repr k y g)

pub gt_is : (k : IntKind) (x y : ℤ) → InRange k x → InRange k y → operation_of Gt k (repr_of k x) (repr_of k y) ≡ Some (from_bool (int_lt y x))
unfolding operation_of
gt_is k x y h g = ap₂ (λ a b. Some (from_bool (int_lt b a))) (value-repr k x h) (value-repr k y g)

pub ge_is : (k : IntKind) (x y : ℤ) → InRange k x → InRange k y → operation_of Ge k (repr_of k x) (repr_of k y) ≡ Some (from_bool (int_le y x))
unfolding operation_of
ge_is k x y h g = ap₂ (λ a b. Some (from_bool (int_le b a))) (value-repr k x h) (value-repr k y g)
