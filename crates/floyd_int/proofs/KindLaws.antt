-- The laws of the bits and the values of a kind.
use Rattle.std.proofs.Common.{◌≡◌, ℕ, ◌+◌, ◌-◌, ◌*◌, ◌%◌, ◌^◌, ◌<◌, ◌≤◌, Bool, true, false, ℤ, pos, ◌+ℤ◌, ◌-ℤ◌, ◌*ℤ◌, neg_ℤ, ◌≤ℤ◌, if◌then◌else◌, refl, sym, ◌∙◌, ap, subst, arith, nat_le, leb-true, leb-false, lit≤, ◌<ℤ◌}
use Rattle.std.proofs.lemmas.Int.{ints}
use Rattle.std.proofs.lemmas.Nat.{pow_pos}
use Rattle.std.specs.Int.RustNames.{unsigned_abs}
use Rattle.std.proofs.Math.IntN.{*ℤ_comm}
use borrow.Author.Differences.{up, down, same_in, sum_is_lem, product_is}
use Rattle.floyd_int.specs.declared.kinds.IntKind.{IntKind}
use Rattle.floyd_int.specs.declared.kinds.IntKind.TheVariants.{I8, U8, I16, U16, I32, U32, I64, U64}
use Rattle.floyd_int.specs.Kind.{width, is_signed, greatest, InRange, repr_of, value_of}
use Rattle.floyd_int.proofs.Modulo.{modulo-below, modulo-small, modulo-same, modulo-split, same_from_near}

-- how many values of the kind are negative, and how many are not
abbrev pub negative_count : IntKind → ℕ
negative_count k = if is_signed k then 2 ^ (width k - 1) else 0

abbrev pub other_count : IntKind → ℕ
other_count k = 2 ^ width k - negative_count k

pub counts : (k : IntKind) → negative_count k + other_count k ≡ 2 ^ width k
counts I8 = refl
counts U8 = refl
counts I16 = refl
counts U16 = refl
counts I32 = refl
counts U32 = refl
counts I64 = refl
counts U64 = refl

-- a range as bounds of naturals
pub InRange-out : (k : IntKind) (z : ℤ) → InRange k z → (down z ≤ up z + negative_count k) × (up z < down z + other_count k)
InRange-out I8 z h = omega (arith, ints, h.from_least, h.to_greatest)
InRange-out U8 z h = omega (arith, ints, h.from_least, h.to_greatest)
InRange-out I16 z h = omega (arith, ints, h.from_least, h.to_greatest)
InRange-out U16 z h = omega (arith, ints, h.from_least, h.to_greatest)
InRange-out I32 z h = omega (arith, ints, h.from_least, h.to_greatest)
InRange-out U32 z h = omega (arith, ints, h.from_least, h.to_greatest)
InRange-out I64 z h = omega (arith, ints, h.from_least, h.to_greatest)
InRange-out U64 z h = omega (arith, ints, h.from_least, h.to_greatest)

pub InRange-in : (k : IntKind) (z : ℤ) → down z ≤ up z + negative_count k → up z < down z + other_count k → InRange k z
InRange-in I8 z h g = record { from_least = omega (arith, ints); to_greatest = omega (arith, ints) }
InRange-in U8 z h g = record { from_least = omega (arith, ints); to_greatest = omega (arith, ints) }
InRange-in I16 z h g = record { from_least = omega (arith, ints); to_greatest = omega (arith, ints) }
InRange-in U16 z h g = record { from_least = omega (arith, ints); to_greatest = omega (arith, ints) }
InRange-in I32 z h g = record { from_least = omega (arith, ints); to_greatest = omega (arith, ints) }
InRange-in U32 z h g = record { from_least = omega (arith, ints); to_greatest = omega (arith, ints) }
InRange-in I64 z h g = record { from_least = omega (arith, ints); to_greatest = omega (arith, ints) }
InRange-in U64 z h g = record { from_least = omega (arith, ints); to_greatest = omega (arith, ints) }

-- the value of b is b, or b - 2 ^ w
data Reads (k : IntKind) (b : ℕ) : Type 0 where
  as_is : value_of k b ≡ pos b → b < other_count k → Reads k b
  below : value_of k b ≡ pos b -ℤ pos (2 ^ width k) → other_count k ≤ b → Reads k b

reads_signed : (k : IntKind) (b : ℕ) → is_signed k ≡ true → other_count k ≡ 2 ^ (width k - 1) → b < 2 ^ width k → Reads k b
unfolding value_of
reads_signed k b s half h = by (nat_le (2 ^ (width k - 1)) b) refl
  where
    by : (t : Bool) → nat_le (2 ^ (width k - 1)) b ≡ t → Reads k b
    by true e = below (rw (s, e)) (omega (arith, leb-true))
    by false e = as_is (rw (s, e)) (omega (arith, leb-false))

reads_unsigned : (k : IntKind) (b : ℕ) → is_signed k ≡ false → other_count k ≡ 2 ^ width k → b < 2 ^ width k → Reads k b
unfolding value_of
reads_unsigned k b s whole h = as_is (rw s) (omega arith)

reads : (k : IntKind) (b : ℕ) → b < 2 ^ width k → Reads k b
reads I8 b h = reads_signed I8 b refl refl h
reads U8 b h = reads_unsigned U8 b refl refl h
reads I16 b h = reads_signed I16 b refl refl h
reads U16 b h = reads_unsigned U16 b refl refl h
reads I32 b h = reads_signed I32 b refl refl h
reads U32 b h = reads_unsigned U32 b refl refl h
reads I64 b h = reads_signed I64 b refl refl h
reads U64 b h = reads_unsigned U64 b refl refl h

-- b lies a multiple of 2 ^ w above its value
pub value-split : (k : IntKind) (b : ℕ) → b < 2 ^ width k → (j : ℕ) × (value_of k b +ℤ pos (j * 2 ^ width k) ≡ pos b)
value-split k b h = by (reads k b h)
  where
    by : Reads k b → (j : ℕ) × (value_of k b +ℤ pos (j * 2 ^ width k) ≡ pos b)
    by (as_is e l) = (0, omega (arith, ints))
    by (below e l) = (1, omega (arith, ints))

-- values are in their kind's range
pub InRange-value : (k : IntKind) (b : ℕ) → b < 2 ^ width k → InRange k (value_of k b)
InRange-value k b h = by (reads k b h)
  where
    by : Reads k b → InRange k (value_of k b)
    by (as_is e l) = InRange-in k (value_of k b) (omega (arith, ints)) (omega (arith, ints))
    by (below e l) = let c = counts k in InRange-in k (value_of k b) (omega (arith, ints)) (omega (arith, ints))

pub repr-below : (k : IntKind) (z : ℤ) → repr_of k z < 2 ^ width k
unfolding repr_of
repr-below k z = modulo-below z (2 ^ width k) (pow_pos (width k))

-- numbers that differ by a multiple of 2 ^ w have the same bits
pub repr-same : (k : IntKind) (a b : ℤ) (i j : ℕ) → a +ℤ pos (i * 2 ^ width k) ≡ b +ℤ pos (j * 2 ^ width k) → repr_of k a ≡ repr_of k b
unfolding repr_of
repr-same k a b i j e = modulo-same a b (2 ^ width k) i j (pow_pos (width k)) e

-- z and its bits differ by a multiple of 2 ^ w
pub repr-split : (k : IntKind) (z : ℤ) → (i : ℕ) × (j : ℕ) × (z +ℤ pos (i * 2 ^ width k) ≡ pos (repr_of k z) +ℤ pos (j * 2 ^ width k))
unfolding repr_of
repr-split k z = modulo-split z (2 ^ width k) (pow_pos (width k))

-- a natural number below 2 ^ w is its own bits
pub repr-small : (k : IntKind) (a : ℕ) → a < 2 ^ width k → repr_of k (pos a) ≡ a
unfolding repr_of
repr-small k a h = modulo-small a (2 ^ width k) h

-- the bits of the value of bits are these bits
pub repr-value : (k : IntKind) (b : ℕ) → b < 2 ^ width k → repr_of k (value_of k b) ≡ b
repr-value k b h = let s = value-split k b h in repr-same k (value_of k b) (pos b) s.0 0 (omega (arith, ints, s.1)) ∙ repr-small k b h

-- in the kind's range, the value of the bits of z is z
pub value-repr : (k : IntKind) (z : ℤ) → InRange k z → value_of k (repr_of k z) ≡ z
value-repr k z h =
    let small = repr-below k z in
    let v = value_of k (repr_of k z) in
    let s = value-split k (repr_of k z) small in
    let r = repr-split k z in
    let c = counts k in
    let one = InRange-out k v (InRange-value k (repr_of k z) small) in
    let other = InRange-out k z h in
    same_from_near v z (2 ^ width k) (s.0 + r.1) r.0 (omega (arith, ints, s.1, r.2)) (omega arith) (omega arith)

-- and only there
pub InRange-from_value : (k : IntKind) (z : ℤ) → value_of k (repr_of k z) ≡ z → InRange k z
InRange-from_value k z e = subst (InRange k) e (InRange-value k (repr_of k z) (repr-below k z))

-- two values of one kind with the same bits are equal
pub same_from_repr : (k : IntKind) (a b : ℤ) → InRange k a → InRange k b → repr_of k a ≡ repr_of k b → a ≡ b
same_from_repr k a b f g e = sym (value-repr k a f) ∙ ap (value_of k) e ∙ value-repr k b g

-- the bits of an unsigned kind are their value
pub value-unsigned : (k : IntKind) (b : ℕ) → is_signed k ≡ false → value_of k b ≡ pos b
unfolding value_of
value-unsigned k b s = rw s

-- equal bits of z and y: they differ by a multiple of 2 ^ w
pub difference : (k : IntKind) (a b : ℤ) → repr_of k a ≡ repr_of k b → (i : ℕ) × (j : ℕ) × (a +ℤ pos (i * 2 ^ width k) ≡ b +ℤ pos (j * 2 ^ width k))
difference k a b e =
    let r = repr-split k a in
    let s = repr-split k b in
    (r.0 + s.1, s.0 + r.1, omega (arith, ints, r.2, s.2))

-- the bits of a sum, a negation, a difference and a product depend on the bits of the operands alone
pub repr-add : (k : IntKind) (a a' b b' : ℤ) → repr_of k a ≡ repr_of k a' → repr_of k b ≡ repr_of k b' → repr_of k (a +ℤ b) ≡ repr_of k (a' +ℤ b')
repr-add k a a' b b' e f =
    let r = difference k a a' e in
    let s = difference k b b' f in
    repr-same k (a +ℤ b) (a' +ℤ b') (r.0 + s.0) (r.1 + s.1) (omega (arith, ints, r.2, s.2))

pub repr-neg : (k : IntKind) (a a' : ℤ) → repr_of k a ≡ repr_of k a' → repr_of k (neg_ℤ a) ≡ repr_of k (neg_ℤ a')
repr-neg k a a' e =
    let r = difference k a a' e in
    repr-same k (neg_ℤ a) (neg_ℤ a') r.1 r.0 (omega (arith, ints, r.2))

pub repr-sub : (k : IntKind) (a a' b b' : ℤ) → repr_of k a ≡ repr_of k a' → repr_of k b ≡ repr_of k b' → repr_of k (a -ℤ b) ≡ repr_of k (a' -ℤ b')
repr-sub k a a' b b' e f = repr-add k a a' (neg_ℤ b) (neg_ℤ b') e (repr-neg k b b' f)

repr-mul_left : (k : IntKind) (a a' b : ℤ) → repr_of k a ≡ repr_of k a' → repr_of k (a *ℤ b) ≡ repr_of k (a' *ℤ b)
repr-mul_left k a a' b e =
    let r = difference k a a' e in
    let m = 2 ^ width k in
    let sum : up a + r.0 * m + down a' ≡ up a' + r.1 * m + down a = omega (arith, ints, r.2) in
    let more = ap (λ x. x * up b) sum in
    let less = ap (λ x. x * down b) sum in
    repr-same k (a *ℤ b) (a' *ℤ b) (r.0 * up b + r.1 * down b) (r.1 * up b + r.0 * down b) (omega (arith, same_in, sum_is_lem, product_is))

pub repr-mul : (k : IntKind) (a a' b b' : ℤ) → repr_of k a ≡ repr_of k a' → repr_of k b ≡ repr_of k b' → repr_of k (a *ℤ b) ≡ repr_of k (a' *ℤ b')
repr-mul k a a' b b' e f =
    repr-mul_left k a a' b e ∙ ap (repr_of k) (*ℤ_comm a' b) ∙ repr-mul_left k b b' a' f ∙ ap (repr_of k) (*ℤ_comm b' a')

-- the bits of a sum, a difference and a product of the values of bits are those of the bits
same_bits : (k : IntKind) (a : ℕ) → a < 2 ^ width k → repr_of k (value_of k a) ≡ repr_of k (pos a)
same_bits k a h = repr-value k a h ∙ sym (repr-small k a h)

pub repr-value_add : (k : IntKind) (a b : ℕ) → a < 2 ^ width k → b < 2 ^ width k → repr_of k (value_of k a +ℤ value_of k b) ≡ (a + b) % 2 ^ width k
unfolding repr_of
repr-value_add k a b h g = repr-add k (value_of k a) (pos a) (value_of k b) (pos b) (same_bits k a h) (same_bits k b g)

pub repr-value_sub : (k : IntKind) (a b : ℕ) → a < 2 ^ width k → b < 2 ^ width k → repr_of k (value_of k a -ℤ value_of k b) ≡ (a + (2 ^ width k - b)) % 2 ^ width k
unfolding repr_of
repr-value_sub k a b h g =
    repr-sub k (value_of k a) (pos a) (value_of k b) (pos b) (same_bits k a h) (same_bits k b g)
    ∙ repr-same k (pos a -ℤ pos b) (pos (a + (2 ^ width k - b))) 1 0 (omega (arith, ints))

pub repr-value_mul : (k : IntKind) (a b : ℕ) → a < 2 ^ width k → b < 2 ^ width k → repr_of k (value_of k a *ℤ value_of k b) ≡ (a * b) % 2 ^ width k
unfolding repr_of
repr-value_mul k a b h g = repr-mul k (value_of k a) (pos a) (value_of k b) (pos b) (same_bits k a h) (same_bits k b g)

pub pow-width_le : (k : IntKind) → 2 ^ width k ≤ 2 ^ 64
pow-width_le I8 = lit≤ tt
pow-width_le U8 = lit≤ tt
pow-width_le I16 = lit≤ tt
pow-width_le U16 = lit≤ tt
pow-width_le I32 = lit≤ tt
pow-width_le U32 = lit≤ tt
pow-width_le I64 = lit≤ tt
pow-width_le U64 = lit≤ tt

-- the greatest value is one less than the number of those that are not negative
greatest_is : (k : IntKind) → greatest k +ℤ pos 1 ≡ pos (other_count k)
greatest_is I8 = refl
greatest_is U8 = refl
greatest_is I16 = refl
greatest_is U16 = refl
greatest_is I32 = refl
greatest_is U32 = refl
greatest_is I64 = refl
greatest_is U64 = refl

pub value-above : (k : IntKind) (b : ℕ) → b < 2 ^ width k → greatest k <ℤ pos b → value_of k b ≡ pos b -ℤ pos (2 ^ width k)
value-above k b h g = by (reads k b h)
  where
    by : Reads k b → value_of k b ≡ pos b -ℤ pos (2 ^ width k)
    by (as_is e l) = absurd (omega (arith, ints, greatest_is k))
    by (below e l) = e

pub value-up_to : (k : IntKind) (b : ℕ) → b < 2 ^ width k → pos b ≤ℤ greatest k → value_of k b ≡ pos b
value-up_to k b h g = by (reads k b h)
  where
    by : Reads k b → value_of k b ≡ pos b
    by (as_is e l) = e
    by (below e l) = absurd (omega (arith, ints, greatest_is k))

-- every value fits 128 bits, with room
pub InRange-abs : (k : IntKind) (z : ℤ) → InRange k z → unsigned_abs z < 2 ^ 64
InRange-abs I8 z h = omega (arith, ints, h.from_least, h.to_greatest)
InRange-abs U8 z h = omega (arith, ints, h.from_least, h.to_greatest)
InRange-abs I16 z h = omega (arith, ints, h.from_least, h.to_greatest)
InRange-abs U16 z h = omega (arith, ints, h.from_least, h.to_greatest)
InRange-abs I32 z h = omega (arith, ints, h.from_least, h.to_greatest)
InRange-abs U32 z h = omega (arith, ints, h.from_least, h.to_greatest)
InRange-abs I64 z h = omega (arith, ints, h.from_least, h.to_greatest)
InRange-abs U64 z h = omega (arith, ints, h.from_least, h.to_greatest)

pub InRange-signed_abs : (k : IntKind) (z : ℤ) → is_signed k ≡ true → InRange k z → unsigned_abs z ≤ 2 ^ 63
InRange-signed_abs I8 z s h = omega (arith, ints, h.from_least, h.to_greatest)
InRange-signed_abs U8 z s h = cc
InRange-signed_abs I16 z s h = omega (arith, ints, h.from_least, h.to_greatest)
InRange-signed_abs U16 z s h = cc
InRange-signed_abs I32 z s h = omega (arith, ints, h.from_least, h.to_greatest)
InRange-signed_abs U32 z s h = cc
InRange-signed_abs I64 z s h = omega (arith, ints, h.from_least, h.to_greatest)
InRange-signed_abs U64 z s h = cc

pub width_le : (k : IntKind) → width k ≤ 64
width_le I8 = lit≤ tt
width_le U8 = lit≤ tt
width_le I16 = lit≤ tt
width_le U16 = lit≤ tt
width_le I32 = lit≤ tt
width_le U32 = lit≤ tt
width_le I64 = lit≤ tt
width_le U64 = lit≤ tt
