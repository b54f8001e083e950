-- Allocation and freeing of whole blocks beside a frame, and places that are valid.
use Rattle.std.proofs.Common.{◌≡◌, ℕ, zero, suc, ◌+◌, ◌<◌, ◌≤◌, ◌==◌, Bool, true, false, length, replicate, Option, Some, None, ⊎_elim, refl, sym, ◌∙◌, ap, subst, arith, is_some, eqb-true}
use Rattle.std.proofs.lemmas.List.{length-replicate}
use Rattle.std.proofs.lemmas.Option.{same_Some}
use Rattle.std.proofs.lemmas.Bool.{cond-true, cases_lt, eqb-false}
use Rattle.floyd_memval.specs.declared.bytes.MemByte.{MemByte}
use Rattle.floyd_memval.specs.declared.bytes.MemByte.TheVariants.{Undef}
use Rattle.floyd_clight_memory.specs.Memory.{Mem, Block, Slot, Perm, Freeable, Readable, Local, includes, all_include, nth, put, slot_of, slot, alloc, free_block, freed, has_perm, is_valid, next}
use Rattle.floyd_clight_heap.specs.Heaplet.{Cell, Heaplet, byte_of, JoinsAt, Joins, FitsAt, Fits, Within, OwnsFrom, spread}
use Rattle.floyd_clight_heap.specs.Laws.{Added, Freed, MayBeRead}
use Rattle.floyd_clight_heap.proofs.Sums.{sum_at, join, part, comm}
use Rattle.floyd_clight_memory.proofs.Places.{nth_front, nth_last, nth_below, nth_put_other}
use Rattle.floyd_clight_heap.proofs.Places.{nth_end, lies}
use Rattle.floyd_clight_heap.proofs.Spreads.{SpreadAt, one_of, nothing, spread_at, nth_replicate}
use Rattle.floyd_clight_heap.proofs.Stores.{seated}

-- ---- alloc

abbrev fresh : Slot
fresh = record { byte = Undef; perm = Some Freeable }

-- nothing that fits has a place in a block that is not there
none_beyond : (k : Option Cell) (s : Option Slot) → FitsAt k s → s ≡ None → k ≡ None
none_beyond None s f e = refl
none_beyond (Some c) None f e = absurd f
none_beyond (Some c) (Some s) f e = cc

-- what fits a slot fits it also where other slots are new
kept : (k : Option Cell) (s u : Option Slot) → FitsAt k s → ((t : Slot) → s ≡ Some t → u ≡ Some t) → FitsAt k u
kept None s u f same = tt
kept (Some c) None u f same = absurd f
kept (Some c) (Some s) u f same = subst (FitsAt (Some c)) (sym (same s refl)) f

no_block : (m : Mem) (x y : ℕ) → length m ≤ x → slot m x y ≡ None
no_block m x y l = ap (λ k. slot_of k y) (nth_end m x l)

slot_alloc_old : (m : Mem) (size x y : ℕ) (s : Slot) → slot m x y ≡ Some s → slot (alloc m size) x y ≡ Some s
slot_alloc_old m size x y s e =
    let l = lies m x y s e in
    ap (λ k. slot_of k y) (nth_front m _ x l.there l.block) ∙ l.slot

slot_alloc_new : (m : Mem) (size x y : ℕ) → x ≡ length m → y < size → slot (alloc m size) x y ≡ Some fresh
slot_alloc_new m size x y p l =
    ap (λ z. slot (alloc m size) z y) p
    ∙ ap (λ k. slot_of k y) (nth_last m (record { kind = Local; slots = replicate size fresh }))
    ∙ nth_replicate size y fresh l

pub new_joins_at : (m : Mem) (size x y : ℕ) (n F : Option Cell) → SpreadAt 15 (replicate size Undef) (length m) 0 x y n → FitsAt F (slot m x y) → JoinsAt n F (sum_at n F)
new_joins_at m size x y n F (nothing none e) f = subst (λ z. JoinsAt z F (sum_at z F)) (sym e) refl
new_joins_at m size x y n F (one_of i byte p q g e) f =
    let none : F ≡ None = none_beyond F (slot m x y) f (no_block m x y (omega (arith, p))) in
    subst (λ z. JoinsAt n z (sum_at n z)) (sym none) (subst (λ z. JoinsAt z None (sum_at z None)) (sym e) refl)

pub new_fits_at : (m : Mem) (size x y : ℕ) (n F : Option Cell) → SpreadAt 15 (replicate size Undef) (length m) 0 x y n → FitsAt F (slot m x y) → FitsAt (sum_at n F) (slot (alloc m size) x y)
new_fits_at m size x y n F (nothing none e) f =
    subst (λ z. FitsAt (sum_at z F) (slot (alloc m size) x y)) (sym e) (kept F (slot m x y) (slot (alloc m size) x y) f (λ s g. slot_alloc_old m size x y s g))
new_fits_at m size x y n F (one_of i byte p q g e) f =
    let none : F ≡ None = none_beyond F (slot m x y) f (no_block m x y (omega (arith, p))) in
    let l : i < length (replicate size Undef) = nth_below (replicate size Undef) i byte g in
    let n_is : length (replicate size Undef) ≡ size = length-replicate size Undef in
    let below : y < size = omega (arith, q, l, n_is) in
    let same : Undef ≡ byte = same_Some Undef byte (sym (nth_replicate size i Undef (omega (arith, l, n_is))) ∙ g) in
    subst (λ z. FitsAt (sum_at n z) (slot (alloc m size) x y)) (sym none)
    (subst (λ z. FitsAt (sum_at z None) (slot (alloc m size) x y)) (sym e)
    (subst (FitsAt (Some (record { byte = byte; less = 15 }))) (sym (slot_alloc_new m size x y p below)) (omega arith, same, refl, λ _. refl)))

pub new_block : (F : Heaplet) (m : Mem) (size : ℕ) → Fits F m → Added (spread 15 (replicate size Undef) (next m) 0) F (alloc m size)
new_block F m size f =
    let new : Heaplet = spread 15 (replicate size Undef) (length m) 0 in
    let at : (x y : ℕ) → SpreadAt 15 (replicate size Undef) (length m) 0 x y (new x y) = spread_at 15 (replicate size Undef) (length m) 0 in
    record {
      sum = join new F;
      joins = record { at = λ x y. new_joins_at m size x y (new x y) (F x y) (at x y) (f.at x y) };
      fits = record { at = λ x y. new_fits_at m size x y (new x y) (F x y) (at x y) (f.at x y) };
    }

-- ---- free

-- a heaplet that owns the places from o on is alone there
frame_none : (n : ℕ) (h F k : Heaplet) (b o i : ℕ) → Joins h F k → OwnsFrom n h b o → i < n → F b (o + i) ≡ None
frame_none zero h F k b o i j w l = absurd (omega arith)
frame_none (suc n) h F k b o zero j w l = ap (F b) (omega arith) ∙ w.0.alone F k j
frame_none (suc n) h F k b o (suc i) j w l =
    let here : o + suc i ≡ (o + 1) + i = omega arith in
    ap (F b) here ∙ frame_none n h F k b (o + 1) i j w.1 (omega arith)

right_part : {h F k : Heaplet} {m : Mem} → Joins h F k → Fits k m → Fits F m
right_part j f = part (comm j) f

frame_at : (h F k : Heaplet) (m : Mem) (b : ℕ) (blk : Block) → Joins h F k → Fits k m → nth m b ≡ Some blk → OwnsFrom (length blk.slots) h b 0 → (y : ℕ) → F b y ≡ None
frame_at h F k m b blk j f e w y = ⊎_elim
    (λ (l : y < length blk.slots).
    let here : y ≡ 0 + y = omega arith in
    ap (F b) here ∙ frame_none (length blk.slots) h F k b 0 y j w l)
    (λ (l : length blk.slots ≤ y). none_beyond (F b y) (slot m b y) ((right_part j f).at b y) (ap (λ z. slot_of z y) e ∙ nth_end blk.slots y l))
    (cases_lt y (length blk.slots))

fits_nothing : (k : Option Cell) (s : Option Slot) → k ≡ None → FitsAt k s
fits_nothing None s e = tt
fits_nothing (Some c) s e = cc

free_at : (F : Heaplet) (m : Mem) (b x y : ℕ) (blk : Block) → Fits F m → ((o : ℕ) → F b o ≡ None) → (t : Bool) → (x == b) ≡ t → FitsAt (F x y) (slot (put m b blk) x y)
free_at F m b x y blk f none true e =
    let p : x ≡ b = eqb-true x b e in
    fits_nothing (F x y) (slot (put m b blk) x y) (ap (λ z. F z y) p ∙ none y)
free_at F m b x y blk f none false e =
    subst (FitsAt (F x y)) (sym (ap (λ z. slot_of z y) (nth_put_other m b x blk (λ p. eqb-false x b e (sym p))))) (f.at x y)

pub owners_free : (h F k : Heaplet) (m : Mem) (b : ℕ) (blk : Block) → Joins h F k → Fits k m → nth m b ≡ Some blk → all_include Freeable blk.slots ≡ true → OwnsFrom (length blk.slots) h b 0 → Freed F m b
owners_free h F k m b blk j f e all w =
    record {
      mem = put m b (freed blk);
      is = ap (free_block m b) e ∙ cond-true (all_include Freeable blk.slots) (Some (put m b (freed blk))) None all;
      fits = record { at = λ x y. free_at F m b x y (freed blk) (right_part j f) (frame_at h F k m b blk j f e w) (x == b) refl };
    }

-- ---- places and bytes

some_byte : (k : Option Cell) (byte : MemByte) → byte_of k ≡ Some byte → (c : Cell) × (k ≡ Some c) × (c.byte ≡ byte)
some_byte None byte e = cc
some_byte (Some c) byte e = (c, refl, same_Some c.byte byte e)

pub bytes_are_read : (h : Heaplet) (m : Mem) (b o : ℕ) (byte : MemByte) → Fits h m → byte_of (h b o) ≡ Some byte → MayBeRead byte (slot m b o)
bytes_are_read h m b o byte f e =
    let c = some_byte (h b o) byte e in
    let s = seated h m b o c.0 f c.1 in
    record { slot = s.slot; is = s.is; readable = s.readable; same = s.byte ∙ c.2 }

perm_there : (p : Option Perm) → includes p Readable ≡ true → is_some p ≡ true
perm_there None e = cc
perm_there (Some p) e = refl

pub places_are_valid : (h : Heaplet) (m : Mem) (b o : ℕ) → Fits h m → Within h b o → is_valid m b o ≡ true
places_are_valid h m b o f w =
    let s = seated h m b o w.cell f w.has in
    ap has_perm s.is ∙ perm_there s.slot.perm s.readable
