-- Stores of bytes that a heaplet owns, beside a frame.
use Rattle.std.proofs.Common.{◌≡◌, ℕ, zero, suc, ◌+◌, ◌<◌, ◌≤◌, Bool, true, List, [], ◌∷◌, length, Option, Some, None, ⊎_elim, refl, sym, ◌∙◌, ap, subst, arith, cond}
use Rattle.std.proofs.lemmas.Bool.{cond-true, cases_lt}
use Rattle.floyd_memval.specs.declared.bytes.MemByte.{MemByte}
use Rattle.floyd_clight_memory.specs.Memory.{Mem, Slot, Readable, Writable, includes, slot, with_byte, put_slot, put_byte, and_then, store_bytes, nth}
use Rattle.floyd_clight_heap.specs.Heaplet.{Cell, Heaplet, empty, JoinsAt, Joins, FitsAt, Fits, Owned, OwnsFrom, with_cell, laid, spread}
use Rattle.floyd_clight_heap.specs.Laws.{Stored}
use Rattle.floyd_clight_heap.proofs.Spreads.{cell_here, twice}
use Rattle.floyd_clight_heap.proofs.Sums.{sum_at, join, part}
use Rattle.floyd_clight_heap.proofs.Places.{At, here, there, at_place, where_is, slot_put_same, slot_put_other}

-- the slot of a cell that fits
pub record Seated (c : Cell) (s : Option Slot) : Type 0 where
  pub slot : Slot
  pub is : s ≡ Some slot
  pub small : c.less < 16
  pub byte : slot.byte ≡ c.byte
  pub readable : includes slot.perm Readable ≡ true
  pub writable : c.less ≡ 15 → includes slot.perm Writable ≡ true

pub seated_at : (c : Cell) (s : Option Slot) → FitsAt (Some c) s → Seated c s
seated_at c None f = absurd f
seated_at c (Some s) f = record { slot = s; is = refl; small = f.0; byte = f.1; readable = f.2; writable = f.3 }

pub seated : (h : Heaplet) (m : Mem) (b o : ℕ) (c : Cell) → Fits h m → h b o ≡ Some c → Seated c (slot m b o)
seated h m b o c f e = seated_at c (slot m b o) (subst (λ g. FitsAt g (slot m b o)) e (f.at b o))

-- ---- what is owned has the share 16

-- one sixteenth more of a place
abbrev one_more : Cell → Cell
one_more c = record { byte = c.byte; less = 0 }

with_nothing : (h : Option Cell) → JoinsAt h None (sum_at h None)
with_nothing None = refl
with_nothing (Some c) = refl

one_more_joins : (b o x y : ℕ) (c : Cell) (h : Option Cell) (t : Bool) → At b o x y t → c.less < 15 → (x ≡ b → y ≡ o → h ≡ Some c) → JoinsAt h (cond t (Some (one_more c)) None) (sum_at h (cond t (Some (one_more c)) None))
one_more_joins b o x y c h t (here p q e) small is =
    subst (λ d. JoinsAt h (cond d (Some (one_more c)) None) (sum_at h (cond d (Some (one_more c)) None))) (sym e)
    (subst (λ g. JoinsAt g (Some (one_more c)) (sum_at g (Some (one_more c)))) (sym (is p q)) (refl, omega arith, refl))
one_more_joins b o x y c h t (there ne e) small is =
    subst (λ d. JoinsAt h (cond d (Some (one_more c)) None) (sum_at h (cond d (Some (one_more c)) None))) (sym e) (with_nothing h)

some_none : (c : Cell) (t : Bool) → t ≡ true → cond t (Some c) None ≡ None → ⊥
some_none c t e f = cc

at_itself : (b o : ℕ) (t : Bool) → At b o b o t → t ≡ true
at_itself b o t (here p q e) = e
at_itself b o t (there ne e) = absurd (ne refl refl)

pub owned_is_whole : (h : Heaplet) (m : Mem) (b o : ℕ) → Fits h m → (w : Owned h b o) → w.cell.less ≡ 15
owned_is_whole h m b o f w =
    let c = w.cell in
    let s = seated h m b o c f w.has in
    let g : Heaplet = with_cell b o (one_more c) empty in
    ⊎_elim
    (λ (small : c.less < 15).
    absurd (some_none (one_more c) (at_place b o b o) (at_itself b o (at_place b o b o) (where_is b o b o))
    (w.alone g (join h g) (record {
      at = λ x y. one_more_joins b o x y c (h x y) (at_place b o x y) (where_is b o x y) small
          (λ p q. ap (λ z. h z y) p ∙ ap (h b) q ∙ w.has);
    }))))
    (λ (large : 15 ≤ c.less).
    let small : c.less < 16 = s.small in
    omega arith)
    (cases_lt c.less 15)

-- h has the place with the share 16
pub record WholeAt (h : Heaplet) (b o : ℕ) : Type 0 where
  pub cell : Cell
  pub has : h b o ≡ Some cell
  pub less : cell.less ≡ 15

abbrev pub WholeFrom : ℕ → Heaplet → ℕ → ℕ → Type 0
WholeFrom zero h b o = Unit {0}
WholeFrom (suc n) h b o = WholeAt h b o × WholeFrom n h b (o + 1)

pub whole_from : (n : ℕ) (h : Heaplet) (m : Mem) (b o : ℕ) → Fits h m → OwnsFrom n h b o → WholeFrom n h b o
whole_from zero h m b o f w = tt
whole_from (suc n) h m b o f w =
    (record { cell = w.0.cell; has = w.0.has; less = owned_is_whole h m b o f w.0 }, whole_from n h m b (o + 1) f w.1)

-- a cell of the share 16 is owned
alone_by : (c : Cell) (g k : Option Cell) → c.less ≡ 15 → JoinsAt (Some c) g k → g ≡ None
alone_by c None k e j = refl
alone_by c (Some d) k e j = absurd (omega (arith, e, j.1))

pub whole_alone : (h g k : Heaplet) (b o : ℕ) → WholeAt h b o → Joins h g k → g b o ≡ None
whole_alone h g k b o w j = alone_by w.cell (g b o) (k b o) w.less (subst (λ z. JoinsAt z (g b o) (k b o)) w.has (j.at b o))

pub whole_is_owned : (h : Heaplet) (b o : ℕ) → WholeAt h b o → Owned h b o
whole_is_owned h b o w = record { cell = w.cell; has = w.has; alone = λ g k j. whole_alone h g k b o w j }

pub whole_owns : (n : ℕ) (h : Heaplet) (b o : ℕ) → WholeFrom n h b o → OwnsFrom n h b o
whole_owns zero h b o w = tt
whole_owns (suc n) h b o w = (whole_is_owned h b o w.0, whole_owns n h b (o + 1) w.1)

-- ---- one byte

abbrev pub whole : MemByte → Cell
whole byte = record { byte = byte; less = 15 }

-- a new cell on both sides of a sum, where the frame has nothing
new_joins : (b o x y : ℕ) (d : Cell) (h F k : Option Cell) (t : Bool) → At b o x y t → (x ≡ b → y ≡ o → F ≡ None) → JoinsAt h F k → JoinsAt (cond t (Some d) h) F (cond t (Some d) k)
new_joins b o x y d h F k t (here p q e) none j =
    subst (λ u. JoinsAt (cond u (Some d) h) F (cond u (Some d) k)) (sym e)
    (subst (λ g. JoinsAt (Some d) g (Some d)) (sym (none p q)) refl)
new_joins b o x y d h F k t (there ne e) none j = subst (λ u. JoinsAt (cond u (Some d) h) F (cond u (Some d) k)) (sym e) j

pub with_new : (h F k : Heaplet) (b o : ℕ) (d : Cell) → Joins h F k → F b o ≡ None → Joins (with_cell b o d h) F (with_cell b o d k)
with_new h F k b o d j none =
    record {
      at = λ x y. new_joins b o x y d (h x y) (F x y) (k x y) (at_place b o x y) (where_is b o x y)
          (λ p q. ap (λ z. F z y) p ∙ ap (F b) q ∙ none) (j.at x y);
    }

new_fits : (b o x y : ℕ) (d : Cell) (k : Option Cell) (s u : Option Slot) (t : Bool) → At b o x y t → FitsAt k s → (x ≡ b → y ≡ o → FitsAt (Some d) u) → ((x ≡ b → y ≡ o → ⊥) → u ≡ s) → FitsAt (cond t (Some d) k) u
new_fits b o x y d k s u t (here p q e) f same other = subst (λ v. FitsAt (cond v (Some d) k) u) (sym e) (same p q)
new_fits b o x y d k s u t (there ne e) f same other =
    subst (λ v. FitsAt (cond v (Some d) k) u) (sym e) (subst (FitsAt k) (sym (other ne)) f)

-- one byte is stored
pub record StoredByte (h F k : Heaplet) (m : Mem) (byte : MemByte) (b o : ℕ) : Type 0 where
  pub mem : Mem
  pub is : put_byte m b o byte (slot m b o) ≡ Some mem
  pub joins : Joins (with_cell b o (whole byte) h) F (with_cell b o (whole byte) k)
  pub fits : Fits (with_cell b o (whole byte) k) mem

pub store_byte : (h F k : Heaplet) (m : Mem) (byte : MemByte) (b o : ℕ) → Joins h F k → Fits k m → WholeAt h b o → StoredByte h F k m byte b o
store_byte h F k m byte b o j f w =
    let c = w.cell in
    let s = seated h m b o c (part j f) w.has in
    let new : Mem = put_slot m b o (with_byte byte s.slot) (nth m b) in
    record {
      mem = new;
      is = ap (put_byte m b o byte) s.is ∙ cond-true (includes s.slot.perm Writable) (Some new) None (s.writable w.less);
      joins = with_new h F k b o (whole byte) j (whole_alone h F k b o w j);
      fits = record {
        at = λ x y. new_fits b o x y (whole byte) (k x y) (slot m x y) (slot new x y) (at_place b o x y) (where_is b o x y) (f.at x y)
            (λ p q. subst (FitsAt (Some (whole byte))) (sym (ap (λ z. slot new z y) p ∙ ap (slot new b) q ∙ slot_put_same m b o s.slot (with_byte byte s.slot) s.is))
            (omega arith, refl, s.readable, λ _. s.writable w.less))
            (λ ne. slot_put_other m b o x y s.slot (with_byte byte s.slot) s.is ne);
      };
    }

-- ---- several bytes

cells_turn : (o p x y b : ℕ) (c d : Cell) (h : Option Cell) (t u : Bool) → At b o x y t → At b p x y u → o < p → cond u (Some d) (cond t (Some c) h) ≡ cond t (Some c) (cond u (Some d) h)
cells_turn o p x y b c d h t u (here q r e) (here q2 r2 e2) below = absurd (omega (arith, r, r2))
cells_turn o p x y b c d h t u (here q r e) (there ne e2) below =
    ap (λ z. cond z (Some d) (cond t (Some c) h)) e2 ∙ ap (λ z. cond t (Some c) (cond z (Some d) h)) (sym e2)
cells_turn o p x y b c d h t u (there ne e) w below =
    ap (λ z. cond u (Some d) (cond z (Some c) h)) e ∙ ap (λ z. cond z (Some c) (cond u (Some d) h)) (sym e)

-- cells at two offsets may be put in any order
pub turn : (b o p : ℕ) (c d : Cell) (h : Heaplet) → o < p → with_cell b p d (with_cell b o c h) ≡ with_cell b o c (with_cell b p d h)
turn b o p c d h below = λ i x y. cells_turn o p x y b c d (h x y) (at_place b o x y) (at_place b p x y) (where_is b o x y) (where_is b p x y) below i

pub laid_over : (bytes : List MemByte) (b o p : ℕ) (c : Cell) (h : Heaplet) → o < p → laid bytes b p (with_cell b o c h) ≡ with_cell b o c (laid bytes b p h)
laid_over [] b o p c h below = refl
laid_over (byte ∷ bytes) b o p c h below =
    ap (with_cell b p (whole byte)) (laid_over bytes b o (p + 1) c h (omega arith)) ∙ turn b o p c (whole byte) (laid bytes b (p + 1) h) below

past : (b o y : ℕ) (t : Bool) (c : Option Cell) (h : Option Cell) → At b o b y t → o < y → cond t c h ≡ h
past b o y t c h (here p q e) below = absurd (omega (arith, q))
past b o y t c h (there ne e) below = ap (λ z. cond z c h) e

-- what stands behind the new cell is as it was
whole_past : (n : ℕ) (h : Heaplet) (b o p : ℕ) (c : Cell) → o < p → WholeFrom n h b p → WholeFrom n (with_cell b o c h) b p
whole_past zero h b o p c below w = tt
whole_past (suc n) h b o p c below w = (
  record { cell = w.0.cell; has = past b o p (at_place b o b p) (Some c) (h b p) (where_is b o b p) below ∙ w.0.has; less = w.0.less },
  whole_past n h b o (p + 1) c (omega arith) w.1,
)

-- bytes are stored one after the other
pub store_all : (bytes : List MemByte) (h F k : Heaplet) (m : Mem) (b o : ℕ) → Joins h F k → Fits k m → WholeFrom (length bytes) h b o → Stored h F k m bytes b o
store_all [] h F k m b o j f w = record { mem = m; is = refl; joins = j; fits = f }
store_all (byte ∷ bytes) h F k m b o j f w =
    let one = store_byte h F k m byte b o j f w.0 in
    let below : o < o + 1 = omega arith in
    let c = whole byte in
    let rest = store_all bytes (with_cell b o c h) F (with_cell b o c k) one.mem b (o + 1) one.joins one.fits (whole_past (length bytes) h b o (o + 1) c below w.1) in
    record {
      mem = rest.mem;
      is = ap (λ z. and_then z (λ n. store_bytes bytes n b (o + 1))) one.is ∙ rest.is;
      joins = subst (λ z. Joins z F (laid (byte ∷ bytes) b o k)) (laid_over bytes b o (o + 1) c h below)
          (subst (Joins (laid bytes b (o + 1) (with_cell b o c h)) F) (laid_over bytes b o (o + 1) c k below) rest.joins);
      fits = subst (λ z. Fits z rest.mem) (laid_over bytes b o (o + 1) c k below) rest.fits;
    }

pub owners_store : (h F k : Heaplet) (m : Mem) (bytes : List MemByte) (b o : ℕ) → Joins h F k → Fits k m → OwnsFrom (length bytes) h b o → Stored h F k m bytes b o
owners_store h F k m bytes b o j f w = store_all bytes h F k m b o j f (whole_from (length bytes) h m b o (part j f) w)

-- ---- bytes spread and stored

-- bytes laid over as many bytes
pub laid_spread : (xs ys : List MemByte) (b o : ℕ) → length xs ≡ length ys → laid ys b o (spread 15 xs b o) ≡ spread 15 ys b o
laid_spread [] [] b o e = refl
laid_spread [] (y ∷ ys) b o e = absurd (omega (arith, e))
laid_spread (x ∷ xs) [] b o e = absurd (omega (arith, e))
laid_spread (x ∷ xs) (y ∷ ys) b o e =
    ap (with_cell b o (whole y)) (laid_over ys b o (o + 1) (whole x) (spread 15 xs b (o + 1)) (omega arith))
    ∙ twice b o (whole y) (whole x) (laid ys b (o + 1) (spread 15 xs b (o + 1)))
    ∙ ap (with_cell b o (whole y)) (laid_spread xs ys b (o + 1) (omega (arith, e)))

pub spread_whole : (bytes : List MemByte) (b o : ℕ) → WholeFrom (length bytes) (spread 15 bytes b o) b o
spread_whole [] b o = tt
spread_whole (byte ∷ bytes) b o = (
  record { cell = whole byte; has = cell_here b o (whole byte) (spread 15 bytes b (o + 1)); less = refl },
  whole_past (length bytes) (spread 15 bytes b (o + 1)) b o (o + 1) (whole byte) (omega arith) (spread_whole bytes b (o + 1)),
)
