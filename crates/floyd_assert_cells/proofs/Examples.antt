-- The worked examples.
use Rattle.std.proofs.Common.{◌≡◌, ℕ, zero, suc, ◌<◌, ◌≤◌, ◌||◌, not, Bool, true, false, pos, List, [], ◌∷◌, ◌++◌, length, map, Option, Some, inr, ⊎_elim, refl, sym, ◌∙◌, ap, subst, arith}
use Rattle.std.proofs.lemmas.Bool.{and_from, and_parts, cases_lt, not-true, not_from_false, or_from, or_parts}
use Rattle.floyd_int.specs.declared.kinds.IntKind.TheVariants.{I8 as KindI8, I32 as KindI32}
use Rattle.floyd_int.specs.declared.kinds.Value.TheVariants.{Vint}
use Rattle.floyd_int.specs.Kind as k
use Rattle.floyd_memval.specs.declared.bytes.MemByte.{MemByte}
use Rattle.floyd_memval.specs.declared.bytes.MemByte.TheVariants.{Undef, Byte}
use Rattle.floyd_memval.specs.Decoding.{decoding}
use Rattle.floyd_memval.specs.Encoding.{encoding}
use Rattle.floyd_clight_memory.specs.Memory.{Perm, Readable, Writable, includes, nth, slot}
use Rattle.floyd_clight_heap.specs.Heaplet.{Cell, Fits, FitsAt, empty, spread}
use Rattle.floyd_clight_heap.proofs.Spreads.{SpreadAt, nothing, one_of, spread_at}
use Rattle.floyd_clight_heap.proofs.Sums.{assoc_back, comm, right_empty}
use Rattle.floyd_assert_cells.specs.Scalars.{Integer}
use Rattle.floyd_assert_cells.specs.Forms.{EndAt, FieldAt, Fields, Single}
use Rattle.floyd_assert_cells.specs.Cells.{IsRead, in_fields, is_padding, within}
use Rattle.floyd_assert_cells.specs.Examples.{Fitting, Heaps, Holding, Layouts, Paths, Stores, c, n, with_bytes}
use Rattle.floyd_assert_cells.proofs.Exact.{exact_by, not_within, same_test, spread_exact, within_from, within_parts}
use Rattle.floyd_assert_cells.proofs.Spreading.{spreads_behind}

pub layouts : Layouts
layouts = record { form = refl; size = refl; align = refl; type = refl; offset = refl; padding = refl }

pub paths : Paths
paths = record { second = refl; third = refl; before = refl; legal = refl; beyond = refl }

pub fitting : Fitting
fitting = record { fits = refl; odd = refl; high = refl; below = refl; negative = refl; behind = refl; size = refl }

pub stores : Stores
unfolding decoding encoding k.repr_of k.value_of
stores = record { char = refl; number = refl; stored = refl; now = refl; refused = refl; unaligned = refl }

-- ---- heaplets

abbrev fields : Fields
fields = FieldAt c 0 (Single (Integer KindI8)) (FieldAt n 4 (Single (Integer KindI32)) (EndAt 8))

-- the padding is the three bytes from 1 on
padding_is : (o : ℕ) → within 1 3 o ≡ is_padding 0 fields o
padding_is o = same_test (within 1 3 o) (is_padding 0 fields o)
    (λ e. let p = within_parts 1 3 o e in
    and_from (within 0 8 o) (not (in_fields 0 fields o)) (within_from 0 8 o (omega arith) (omega (arith, p.1)))
    (not_from_false (in_fields 0 fields o)
    (or_from (within 0 1 o) (within 4 4 o || false) (not_within 0 1 o (λ l m. omega (arith, m, p.0)))
    (or_from (within 4 4 o) false (not_within 4 4 o (λ l m. omega (arith, l, p.1))) refl))))
    (λ e. let p = and_parts (within 0 8 o) (not (in_fields 0 fields o)) e in
    let q = or_parts (within 0 1 o) (within 4 4 o || false) (not-true (in_fields 0 fields o) p.1) in
    let r = or_parts (within 4 4 o) false q.1 in
    let l = within_parts 0 8 o p.0 in
    inside o l.1 q.0 r.0)
  where
    both_ways : (t : Bool) → t ≡ false → t ≡ true → ⊥
    both_ways t e f = cc

    inside : (o : ℕ) → o < 8 → within 0 1 o ≡ false → within 4 4 o ≡ false → within 1 3 o ≡ true
    inside zero l e f = absurd (both_ways (within 0 1 0) e (within_from 0 1 0 (omega arith) (omega arith)))
    inside (suc o) l e f = ⊎_elim
        (λ (small : suc o < 4). within_from 1 3 (suc o) (omega arith) (omega arith))
        (λ (large : 4 ≤ suc o). absurd (both_ways (within 4 4 (suc o)) f (within_from 4 4 (suc o) large (omega arith))))
        (cases_lt (suc o) 4)

nth_map : {A B : Type 0} (f : A → B) (xs : List A) (i : ℕ) (x : A) → nth xs i ≡ Some x → nth (map f xs) i ≡ Some (f x)
nth_map f [] i x e = cc
nth_map f (y ∷ xs) zero x e = cc
nth_map f (y ∷ xs) (suc i) x e = nth_map f xs i x e

-- bytes that are spread over a block fit it
fits_at : (p : Perm) (less : ℕ) (bytes : List MemByte) (x y : ℕ) (k : Option Cell) → less < 16 → includes (Some p) Readable ≡ true → (less ≡ 15 → includes (Some p) Writable ≡ true) → SpreadAt less bytes 0 0 x y k → FitsAt k (slot (with_bytes p bytes) x y)
fits_at p less bytes x y k small read write (nothing none e) = subst (λ z. FitsAt z (slot (with_bytes p bytes) x y)) (sym e) tt
fits_at p less bytes x y k small read write (one_of i byte a b e f) =
    let m = with_bytes p bytes in
    let here : slot m x y ≡ Some (record { byte = byte; perm = Some p }) = ap (λ z. slot m z y) a ∙ ap (slot m 0) (b ∙ omega arith) ∙ nth_map (λ b. record { byte = b; perm = Some p }) bytes i byte e in
    subst (λ z. FitsAt z (slot m x y)) (sym f) (subst (FitsAt (Some (record { byte = byte; less = less }))) (sym here) (small, refl, read, write))

spread_fits : (p : Perm) (less : ℕ) (bytes : List MemByte) → less < 16 → includes (Some p) Readable ≡ true → (less ≡ 15 → includes (Some p) Writable ≡ true) → Fits (spread less bytes 0 0) (with_bytes p bytes)
spread_fits p less bytes small read write = record { at = λ x y. fits_at p less bytes x y (spread less bytes 0 0 x y) small read write (spread_at less bytes 0 0 x y) }

abbrev gap : List MemByte
gap = Undef ∷ Undef ∷ Undef ∷ []

char_reads : IsRead (Integer KindI8) (Vint 5) (Byte 5 ∷ [])
unfolding decoding k.repr_of k.value_of
char_reads = inr (refl, refl)

seven_reads : IsRead (Integer KindI32) (Vint 7) (Byte 7 ∷ Byte 0 ∷ Byte 0 ∷ Byte 0 ∷ [])
unfolding decoding
seven_reads = inr (refl, refl)

less_two_reads : IsRead (Integer KindI32) (Vint 4294967294) (Byte 254 ∷ Byte 255 ∷ Byte 255 ∷ Byte 255 ∷ [])
unfolding decoding
less_two_reads = inr (refl, refl)

held : (p : Perm) (less : ℕ) (bytes : List MemByte) (v : ℕ) → less < 16 → includes (Some p) Readable ≡ true → (less ≡ 15 → includes (Some p) Writable ≡ true) → length bytes ≡ 4 → IsRead (Integer KindI32) (Vint v) bytes →
    Holding (with_bytes p (Byte 5 ∷ Undef ∷ Undef ∷ Undef ∷ bytes)) (pos (suc less)) 5 v
held p less bytes v small read write count reads =
    let behind = spreads_behind less (Byte 5 ∷ []) (gap ++ bytes) 0 0 in
    let number = spreads_behind less gap bytes 0 1 in
    let x = assoc_back (comm number) behind in
    record {
      heap = spread less (Byte 5 ∷ gap ++ bytes) 0 0;
      fits = spread_fits p less (Byte 5 ∷ gap ++ bytes) small read write;
      holds = (
        small,
        (
          x.0,
          spread less gap 0 1,
          x.2,
          (
            spread less (Byte 5 ∷ []) 0 0,
            spread less bytes 0 4,
            x.1,
            record { bytes = Byte 5 ∷ []; count = refl; exact = refl; reads = char_reads },
            (spread less bytes 0 4, empty, right_empty (spread less bytes 0 4), record { bytes = bytes; count = count; exact = refl; reads = reads }, refl),
          ),
          exact_by less 0 (within 1 3) (is_padding 0 fields) (spread less gap 0 1) padding_is (spread_exact less 0 gap 1),
        ),
      );
    }

pub heaps : Heaps
heaps = record {
  whole = held Writable 15 (Byte 7 ∷ Byte 0 ∷ Byte 0 ∷ Byte 0 ∷ []) 7 (omega arith) refl (λ _. refl) refl seven_reads;
  stored = held Writable 15 (Byte 254 ∷ Byte 255 ∷ Byte 255 ∷ Byte 255 ∷ []) 4294967294 (omega arith) refl (λ _. refl) refl less_two_reads;
  half = held Readable 7 (Byte 7 ∷ Byte 0 ∷ Byte 0 ∷ Byte 0 ∷ []) 7 (omega arith) refl (λ e. absurd (omega (arith, e))) refl seven_reads;
}
