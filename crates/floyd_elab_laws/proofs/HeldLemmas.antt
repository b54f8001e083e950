-- A value that a type allows is that of a whole number.
use Rattle.std.proofs.Common.{◌≡◌, ℕ, ◌+◌, ◌^◌, ◌<◌, ◌≤◌, Bool, true, false, ◌&&◌, ◌||◌, ℤ, pos, ◌-ℤ◌, List, Option, Some, refl, sym, ap, subst, arith, nat_lt, nat_le, ltb-true, leb-true, true≢false}
use Rattle.std.proofs.lemmas.Bool.{and_parts}
use Rattle.std.proofs.lemmas.Int.{ints}
use Rattle.floyd_int.specs.declared.kinds.IntKind.{IntKind}
use Rattle.floyd_int.specs.declared.kinds.IntKind.TheVariants.{I8, U8, I16, U16, I32, U32, I64, U64}
use Rattle.floyd_int.specs.declared.kinds.Value.{Value}
use Rattle.floyd_int.specs.declared.kinds.Value.TheVariants.{Vundef, Vint, Vlong, Vptr}
use Rattle.floyd_int.specs.Kind.{InRange, repr_of, value_of}
use Rattle.floyd_int.proofs.KindLaws.{InRange-value, repr-value, value-unsigned, value-above, value-up_to}
use Rattle.floyd_ctypes.specs.declared.ctype.CType.{Int}
use Rattle.floyd_ctypes.specs.Has.{has_kind, signed_within}
use Rattle.floyd_elab_names.specs.declared.meaning.Meaning.{Meaning}
use Rattle.floyd_elab_names.specs.declared.meaning.Meaning.TheVariants as m
use Rattle.floyd_elab_names.specs.Scopes.{Scopes, meaning_of}
use Rattle.floyd_clight_machine.specs.Integers.{read_as}
use Rattle.floyd_clight_machine.specs.Evaluation.{Temps}
use Rattle.floyd_elab_laws.specs.Laws.{HeldIn, Holds, AreAllowed}

-- the whole number of a value of a kind
abbrev number_in : IntKind → Value → ℤ
number_in k Vundef = pos 0
number_in k (Vint b) = value_of (read_as k) b
number_in k (Vlong b) = value_of (read_as k) b
number_in k (Vptr b o) = pos 0

-- 32 bits that are read with a sign
data Read (b : ℕ) : Type 0 where
  small : value_of I32 b ≡ pos b → b < 2 ^ 31 → Read b
  large : value_of I32 b ≡ pos b -ℤ pos (2 ^ 32) → 2 ^ 31 ≤ b → Read b

or_true : (s t : Bool) {A : Type 0} → s || t ≡ true → (s ≡ true → A) → (t ≡ true → A) → A
or_true true t h f g = f refl
or_true false t h f g = g h

within : (m b : ℕ) {A : Type 0} → signed_within m b ≡ true → (b < m → A) → (2 ^ 32 ≤ b + m → b < 2 ^ 32 → A) → A
within m b h f g =
    or_true (nat_lt b m) (nat_le (2 ^ 32) (b + m) && nat_lt b (2 ^ 32)) h
    (λ l. f (ltb-true _ _ l))
    (λ r. let parts = and_parts (nat_le (2 ^ 32) (b + m)) (nat_lt b (2 ^ 32)) r in g (leb-true _ _ parts.0) (ltb-true _ _ parts.1))

below : (b : ℕ) → b < 2 ^ 31 → value_of I32 b ≡ pos b
below b h = value-up_to I32 b (omega arith) (omega (arith, ints, h))

above : (b : ℕ) → 2 ^ 31 ≤ b → b < 2 ^ 32 → value_of I32 b ≡ pos b -ℤ pos (2 ^ 32)
above b h l = value-above I32 b l (omega (arith, ints, h))

range_i8 : (b : ℕ) → signed_within (2 ^ 7) b ≡ true → InRange I8 (value_of I32 b)
range_i8 b h =
    within (2 ^ 7) b h
    (λ l. subst (InRange I8) (sym (below b (omega (arith, l)))) (record { from_least = omega (arith, ints, l); to_greatest = omega (arith, ints, l) }))
    (λ l r. subst (InRange I8) (sym (above b (omega (arith, l)) r)) (record { from_least = omega (arith, ints, l, r); to_greatest = omega (arith, ints, l, r) }))

range_i16 : (b : ℕ) → signed_within (2 ^ 15) b ≡ true → InRange I16 (value_of I32 b)
range_i16 b h =
    within (2 ^ 15) b h
    (λ l. subst (InRange I16) (sym (below b (omega (arith, l)))) (record { from_least = omega (arith, ints, l); to_greatest = omega (arith, ints, l) }))
    (λ l r. subst (InRange I16) (sym (above b (omega (arith, l)) r)) (record { from_least = omega (arith, ints, l, r); to_greatest = omega (arith, ints, l, r) }))

bound : (m b : ℕ) → m ≤ 2 ^ 31 → signed_within m b ≡ true → b < 2 ^ 32
bound m b n h = within m b h (λ l. omega (arith, l, n)) (λ l r. r)

unsigned_range : (k : IntKind) (b : ℕ) → InRange k (pos b) → InRange k (value_of U32 b)
unsigned_range k b h = subst (InRange k) (sym (value-unsigned U32 b refl)) h

held_in : (k : IntKind) (v : Value) → has_kind k v ≡ true → HeldIn v k (number_in k v)
unfolding repr_of
held_in I8 (Vint b) h = record { in_range = range_i8 b h; value = ap Vint (sym (repr-value I32 b (bound (2 ^ 7) b (omega arith) h))) }
held_in U8 (Vint b) h = let l = ltb-true _ _ h in record { in_range = unsigned_range U8 b (record { from_least = omega (arith, ints, l); to_greatest = omega (arith, ints, l) }); value = ap Vint (sym (repr-value U32 b (omega (arith, l)))) }
held_in I16 (Vint b) h = record { in_range = range_i16 b h; value = ap Vint (sym (repr-value I32 b (bound (2 ^ 15) b (omega arith) h))) }
held_in U16 (Vint b) h = let l = ltb-true _ _ h in record { in_range = unsigned_range U16 b (record { from_least = omega (arith, ints, l); to_greatest = omega (arith, ints, l) }); value = ap Vint (sym (repr-value U32 b (omega (arith, l)))) }
held_in I32 (Vint b) h = let l = ltb-true _ _ h in record { in_range = InRange-value I32 b l; value = ap Vint (sym (repr-value I32 b l)) }
held_in U32 (Vint b) h = let l = ltb-true _ _ h in record { in_range = InRange-value U32 b l; value = ap Vint (sym (repr-value U32 b l)) }
held_in I64 (Vlong b) h = let l = ltb-true _ _ h in record { in_range = InRange-value I64 b l; value = ap Vlong (sym (repr-value I64 b l)) }
held_in U64 (Vlong b) h = let l = ltb-true _ _ h in record { in_range = InRange-value U64 b l; value = ap Vlong (sym (repr-value U64 b l)) }
held_in I8 Vundef h = absurd (true≢false (sym h))
held_in I8 (Vlong b) h = absurd (true≢false (sym h))
held_in I8 (Vptr b o) h = absurd (true≢false (sym h))
held_in U8 Vundef h = absurd (true≢false (sym h))
held_in U8 (Vlong b) h = absurd (true≢false (sym h))
held_in U8 (Vptr b o) h = absurd (true≢false (sym h))
held_in I16 Vundef h = absurd (true≢false (sym h))
held_in I16 (Vlong b) h = absurd (true≢false (sym h))
held_in I16 (Vptr b o) h = absurd (true≢false (sym h))
held_in U16 Vundef h = absurd (true≢false (sym h))
held_in U16 (Vlong b) h = absurd (true≢false (sym h))
held_in U16 (Vptr b o) h = absurd (true≢false (sym h))
held_in I32 Vundef h = absurd (true≢false (sym h))
held_in I32 (Vlong b) h = absurd (true≢false (sym h))
held_in I32 (Vptr b o) h = absurd (true≢false (sym h))
held_in U32 Vundef h = absurd (true≢false (sym h))
held_in U32 (Vlong b) h = absurd (true≢false (sym h))
held_in U32 (Vptr b o) h = absurd (true≢false (sym h))
held_in I64 Vundef h = absurd (true≢false (sym h))
held_in I64 (Vint b) h = absurd (true≢false (sym h))
held_in I64 (Vptr b o) h = absurd (true≢false (sym h))
held_in U64 Vundef h = absurd (true≢false (sym h))
held_in U64 (Vint b) h = absurd (true≢false (sym h))
held_in U64 (Vptr b o) h = absurd (true≢false (sym h))

-- what a variable in sight holds
abbrev in_variable : Temps → Option Meaning → ℤ
in_variable temps (Some (m.Variable called (Int k) storage)) = number_in k (temps called)
in_variable temps meaning = pos 0

pub allowed_hold : (among : List ℕ → Bool) (scopes : Scopes) (temps : Temps) → AreAllowed among scopes temps → (variables : List ℕ → ℤ) × Holds among scopes variables temps
allowed_hold among scopes temps h = (
  (λ x. in_variable temps (meaning_of scopes x)),
  λ x called k storage w e a. subst (HeldIn (temps called) k) (sym (ap (in_variable temps) e)) (held_in k (temps called) (h x called k storage w e a)),
)
