-- The laws of the operators: where each is defined, and its result there.
use Rattle.std.proofs.Common.{◌≡◌, ℕ, ◌^◌, ◌<◌, Bool, true, false, not, ◌&&◌, ℤ, pos, negsuc, neg_ℤ, ◌+ℤ◌, ◌-ℤ◌, ◌*ℤ◌, Some, None, IsNone, if◌then◌else◌, inl, inr, refl, sym, ◌∙◌, arith, ⊎_elim, ◌↔◌, true≢false}
use Rattle.std.specs.Prelude.{int_lt, int_le, int_div, int_rem, unsigned_abs, bit_and, bit_or, bit_xor}
use Rattle.std.specs.Int.{from_bool}
use Rattle.std.specs.Ordering.{int_eq}
use Rattle.std.proofs.lemmas.Int.{ints}
use Rattle.std.proofs.lemmas.Bool.Decides.{Decides-int_eq}
use Rattle.floyd_int.specs.declared.kinds.IntKind.{IntKind}
use Rattle.floyd_int.specs.declared.kinds.IntOp.{IntOp}
use Rattle.floyd_int.specs.declared.kinds.IntOp.TheVariants.{Add, Sub, Mul, Div, Rem, And, Or, Xor, Shl, Shr, Eq, Ne, Lt, Le, Gt, Ge}
use Rattle.floyd_int.specs.Kind.{width, is_signed, least, greatest, InRange, repr_of, value_of}
use Rattle.floyd_int.specs.Operation.{is_in_range, arithmetic, can_divide, quotient, remainder, can_shift, left_shift, right_shift, floor_div, operation_of, negation_of, Overflows, IsBadDivision, IsBadShift, IsUndefined}

-- ---- the tests decide the facts

pub InRange-true : (k : IntKind) (z : ℤ) → is_in_range k z ≡ true → InRange k z
InRange-true k z e = by (int_le (least k) z) refl (int_le z (greatest k)) refl
  where
    by : (s : Bool) → int_le (least k) z ≡ s → (t : Bool) → int_le z (greatest k) ≡ t → InRange k z
    by true f true g = record { from_least = omega (arith, ints); to_greatest = omega (arith, ints) }
    by true f false g = cc
    by false f t g = cc

pub true-InRange : (k : IntKind) (z : ℤ) → InRange k z → is_in_range k z ≡ true
true-InRange k z h =
    let low : true ≡ int_le (least k) z = omega (arith, ints, h.from_least) in
    let high : true ≡ int_le z (greatest k) = omega (arith, ints, h.to_greatest) in
    rw (sym low, sym high)

-- ---- sums, differences, products and negations

pub arithmetic-in_range : (k : IntKind) (z : ℤ) → InRange k z → arithmetic k z ≡ Some (repr_of k z)
arithmetic-in_range k z h = by (is_signed k)
  where
    by : (s : Bool) → (if s && not (is_in_range k z) then None else Some (repr_of k z)) ≡ Some (repr_of k z)
    by true = rw (true-InRange k z h)
    by false = refl

pub arithmetic-unsigned : (k : IntKind) (z : ℤ) → is_signed k ≡ false → arithmetic k z ≡ Some (repr_of k z)
arithmetic-unsigned k z e = rw e

true-Overflows : (k : IntKind) (z : ℤ) → Overflows k z → is_signed k && not (is_in_range k z) ≡ true
true-Overflows k z h = by (is_signed k) (is_in_range k z) h.0 refl
  where
    by : (s t : Bool) → s ≡ true → is_in_range k z ≡ t → s && not t ≡ true
    by true true f g = absurd (h.1 (InRange-true k z g))
    by true false f g = refl
    by false t f g = f

Overflows-true : (k : IntKind) (z : ℤ) → is_signed k && not (is_in_range k z) ≡ true → Overflows k z
Overflows-true k z h = by (is_signed k) refl (is_in_range k z) refl h
  where
    by : (s : Bool) → is_signed k ≡ s → (t : Bool) → is_in_range k z ≡ t → s && not t ≡ true → Overflows k z
    by true f true g d = absurd (true≢false (sym d))
    by true f false g d = (f, λ i. true≢false (sym (true-InRange k z i) ∙ g))
    by false f t g d = absurd (true≢false (sym d))

-- ---- quotients and remainders

pub can_divide-true : (k : IntKind) (x y : ℤ) → ¬ IsBadDivision k x y → can_divide k x y ≡ true
can_divide-true k x y h =
    by (int_eq y (pos 0)) refl (is_signed k) refl (int_eq x (least k)) refl (int_eq y (negsuc 0)) refl
  where
    by : (z : Bool) → int_eq y (pos 0) ≡ z → (s : Bool) → is_signed k ≡ s → (l : Bool) → int_eq x (least k) ≡ l → (m : Bool) → int_eq y (negsuc 0) ≡ m → not z && not (s && (l && m)) ≡ true
    by true e s f l g m i = absurd (h (inl ((Decides-int_eq y (pos 0)).0 e)))
    by false e true f true g true i = absurd (h (inr (f, (Decides-int_eq x (least k)).0 g, (Decides-int_eq y (negsuc 0)).0 i)))
    by false e true f true g false i = refl
    by false e true f false g m i = refl
    by false e false f l g m i = refl

pub can_divide-false : (k : IntKind) (x y : ℤ) → IsBadDivision k x y → can_divide k x y ≡ false
can_divide-false k x y h =
    ⊎_elim (λ e. by_zero (int_eq y (pos 0)) (is_signed k && (int_eq x (least k) && int_eq y (negsuc 0))) ((Decides-int_eq y (pos 0)).1 e))
    (λ b. by_least (int_eq y (pos 0)) (is_signed k) (int_eq x (least k)) (int_eq y (negsuc 0)) b.0 ((Decides-int_eq x (least k)).1 b.1) ((Decides-int_eq y (negsuc 0)).1 b.2)) h
  where
    by_zero : (z w : Bool) → z ≡ true → not z && not w ≡ false
    by_zero true w e = refl
    by_zero false w e = cc

    by_least : (z s l m : Bool) → s ≡ true → l ≡ true → m ≡ true → not z && not (s && (l && m)) ≡ false
    by_least true s l m f g i = refl
    by_least false true true true f g i = refl
    by_least false true true false f g i = cc
    by_least false true false m f g i = cc
    by_least false false l m f g i = cc

IsBadDivision-false : (k : IntKind) (x y : ℤ) → can_divide k x y ≡ false → IsBadDivision k x y
IsBadDivision-false k x y h =
    by (int_eq y (pos 0)) refl (is_signed k) refl (int_eq x (least k)) refl (int_eq y (negsuc 0)) refl h
  where
    by : (z : Bool) → int_eq y (pos 0) ≡ z → (s : Bool) → is_signed k ≡ s → (l : Bool) → int_eq x (least k) ≡ l → (m : Bool) → int_eq y (negsuc 0) ≡ m → not z && not (s && (l && m)) ≡ false → IsBadDivision k x y
    by true e s f l g m i d = inl ((Decides-int_eq y (pos 0)).0 e)
    by false e true f true g true i d = inr (f, (Decides-int_eq x (least k)).0 g, (Decides-int_eq y (negsuc 0)).0 i)
    by false e true f true g false i d = absurd (true≢false d)
    by false e true f false g m i d = absurd (true≢false d)
    by false e false f l g m i d = absurd (true≢false d)

pub quotient-defined : (k : IntKind) (x y : ℤ) → ¬ IsBadDivision k x y → quotient k x y ≡ Some (repr_of k (int_div x y))
quotient-defined k x y h = rw (can_divide-true k x y h)

pub remainder-defined : (k : IntKind) (x y : ℤ) → ¬ IsBadDivision k x y → remainder k x y ≡ Some (repr_of k (int_rem x y))
remainder-defined k x y h = rw (can_divide-true k x y h)

-- ---- shifts

pub can_shift-true : (k : IntKind) (n : ℕ) → n < width k → can_shift k (pos n) ≡ true
can_shift-true k n h =
    let low : true ≡ int_le (pos 0) (pos n) = omega (arith, ints) in
    let high : true ≡ int_lt (pos n) (pos (width k)) = omega (arith, ints) in
    both (int_le (pos 0) (pos n)) (int_lt (pos n) (pos (width k))) low high
  where
    both : (s t : Bool) → true ≡ s → true ≡ t → s && t ≡ true
    both true t e f = sym f
    both false t e f = sym e

pub can_shift-false : (k : IntKind) (y : ℤ) → IsBadShift k y → can_shift k y ≡ false
can_shift-false k y h = by (int_le (pos 0) y) refl (int_lt y (pos (width k))) refl
  where
    by : (s : Bool) → int_le (pos 0) y ≡ s → (t : Bool) → int_lt y (pos (width k)) ≡ t → s && t ≡ false
    by true e true f = absurd (⊎_elim (λ g. omega (arith, ints)) (λ g. omega (arith, ints)) h)
    by true e false f = refl
    by false e t f = refl

IsBadShift-false : (k : IntKind) (y : ℤ) → can_shift k y ≡ false → IsBadShift k y
IsBadShift-false k y h = by (int_le (pos 0) y) refl (int_lt y (pos (width k))) refl h
  where
    by : (s : Bool) → int_le (pos 0) y ≡ s → (t : Bool) → int_lt y (pos (width k)) ≡ t → s && t ≡ false → IsBadShift k y
    by true f true g d = absurd (true≢false d)
    by true f false g d = inr (omega (arith, ints))
    by false f t g d = inl (omega (arith, ints))

-- the amount of a shift that C defines
pub shift_amount : (k : IntKind) (y : ℤ) → can_shift k y ≡ true → (n : ℕ) × (y ≡ pos n) × (n < width k)
shift_amount k (pos n) e = (n, refl, by (int_le (pos 0) (pos n)) (int_lt (pos n) (pos (width k))) refl e)
  where
    by : (s t : Bool) → int_lt (pos n) (pos (width k)) ≡ t → s && t ≡ true → n < width k
    by true true f d = omega (arith, ints)
    by true false f d = absurd (true≢false (sym d))
    by false t f d = absurd (true≢false (sym d))
shift_amount k (negsuc n) e = absurd (true≢false (sym e))

pub left_shift-defined : (k : IntKind) (x : ℤ) (n : ℕ) → n < width k → left_shift k x (pos n) ≡ Some (repr_of k (x *ℤ pos (2 ^ n)))
left_shift-defined k x n h = rw (can_shift-true k n h)

pub right_shift-defined : (k : IntKind) (x : ℤ) (n : ℕ) → n < width k → right_shift k x (pos n) ≡ Some (repr_of k (floor_div x (2 ^ n)))
right_shift-defined k x n h = rw (can_shift-true k n h)

-- ---- `None` stands exactly where C leaves the result undefined

IsNone-unless : (b : Bool) (c : ℕ) → IsNone (if b then None else Some c) ↔ (b ≡ true)
IsNone-unless true c = (λ e. refl, λ e. refl)
IsNone-unless false c = (λ e. sym e, λ e. sym e)

IsNone-if : (b : Bool) (c : ℕ) → IsNone (if b then Some c else None) ↔ (b ≡ false)
IsNone-if true c = (λ e. e, λ e. e)
IsNone-if false c = (λ e. refl, λ e. refl)

pub IsNone-arithmetic : (k : IntKind) (z : ℤ) → IsNone (arithmetic k z) ↔ Overflows k z
IsNone-arithmetic k z = (λ e. Overflows-true k z ((IsNone-unless (is_signed k && not (is_in_range k z)) (repr_of k z)).0 e), λ h. (IsNone-unless (is_signed k && not (is_in_range k z)) (repr_of k z)).1 (true-Overflows k z h))

pub IsNone-quotient : (k : IntKind) (x y : ℤ) → IsNone (quotient k x y) ↔ IsBadDivision k x y
IsNone-quotient k x y = let n = IsNone-if (can_divide k x y) (repr_of k (int_div x y)) in (λ e. IsBadDivision-false k x y (n.0 e), λ h. n.1 (can_divide-false k x y h))

pub IsNone-remainder : (k : IntKind) (x y : ℤ) → IsNone (remainder k x y) ↔ IsBadDivision k x y
IsNone-remainder k x y = let n = IsNone-if (can_divide k x y) (repr_of k (int_rem x y)) in (λ e. IsBadDivision-false k x y (n.0 e), λ h. n.1 (can_divide-false k x y h))

pub IsNone-left_shift : (k : IntKind) (x y : ℤ) → IsNone (left_shift k x y) ↔ IsBadShift k y
IsNone-left_shift k x y = let n = IsNone-if (can_shift k y) (repr_of k (x *ℤ pos (2 ^ unsigned_abs y))) in (λ e. IsBadShift-false k y (n.0 e), λ h. n.1 (can_shift-false k y h))

pub IsNone-right_shift : (k : IntKind) (x y : ℤ) → IsNone (right_shift k x y) ↔ IsBadShift k y
IsNone-right_shift k x y = let n = IsNone-if (can_shift k y) (repr_of k (floor_div x (2 ^ unsigned_abs y))) in (λ e. IsBadShift-false k y (n.0 e), λ h. n.1 (can_shift-false k y h))

IsNone-some : (c : ℕ) → IsNone (Some c) ↔ ⊥
IsNone-some c = (λ e. true≢false e, λ h. absurd h)

pub IsNone-operation : (op : IntOp) (k : IntKind) (a b : ℕ) → IsNone (operation_of op k a b) ↔ IsUndefined op k (value_of k a) (value_of k b)
unfolding operation_of
IsNone-operation Add k a b = IsNone-arithmetic k (value_of k a +ℤ value_of k b)
IsNone-operation Sub k a b = IsNone-arithmetic k (value_of k a -ℤ value_of k b)
IsNone-operation Mul k a b = IsNone-arithmetic k (value_of k a *ℤ value_of k b)
IsNone-operation Div k a b = IsNone-quotient k (value_of k a) (value_of k b)
IsNone-operation Rem k a b = IsNone-remainder k (value_of k a) (value_of k b)
IsNone-operation And k a b = IsNone-some (bit_and a b)
IsNone-operation Or k a b = IsNone-some (bit_or a b)
IsNone-operation Xor k a b = IsNone-some (bit_xor a b)
IsNone-operation Shl k a b = IsNone-left_shift k (value_of k a) (value_of k b)
IsNone-operation Shr k a b = IsNone-right_shift k (value_of k a) (value_of k b)
IsNone-operation Eq k a b = IsNone-some (from_bool (int_eq (value_of k a) (value_of k b)))
IsNone-operation Ne k a b = IsNone-some (from_bool (not (int_eq (value_of k a) (value_of k b))))
IsNone-operation Lt k a b = IsNone-some (from_bool (int_lt (value_of k a) (value_of k b)))
IsNone-operation Le k a b = IsNone-some (from_bool (int_le (value_of k a) (value_of k b)))
IsNone-operation Gt k a b = IsNone-some (from_bool (int_lt (value_of k b) (value_of k a)))
IsNone-operation Ge k a b = IsNone-some (from_bool (int_le (value_of k b) (value_of k a)))

pub IsNone-negation : (k : IntKind) (a : ℕ) → IsNone (negation_of k a) ↔ Overflows k (neg_ℤ (value_of k a))
unfolding negation_of
IsNone-negation k a = IsNone-arithmetic k (neg_ℤ (value_of k a))
