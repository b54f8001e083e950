-- Bytes spread from a place on.
use Rattle.std.proofs.Common.{◌≡◌, ℕ, zero, suc, ◌+◌, ◌<◌, Bool, true, false, List, [], ◌∷◌, length, replicate, Option, Some, None, refl, ◌∙◌, ap, arith, cond}
use Rattle.floyd_memval.specs.declared.bytes.MemByte.{MemByte}
use Rattle.floyd_clight_memory.specs.Memory.{nth}
use Rattle.floyd_clight_heap.specs.Heaplet.{Cell, HasBytes, Heaplet, byte_of, with_cell, spread}
use Rattle.floyd_clight_heap.proofs.Places.{At, here, there, at_place, where_is}

-- what stands at a place: one of the bytes, or nothing
pub data SpreadAt (less : ℕ) (bytes : List MemByte) (b o x y : ℕ) (k : Option Cell) : Type 0 where
  one_of : (i : ℕ) (byte : MemByte) → x ≡ b → y ≡ o + i → nth bytes i ≡ Some byte → k ≡ Some (record { byte = byte; less = less }) → SpreadAt less bytes b o x y k
  nothing : ((i : ℕ) → i < length bytes → x ≡ b → y ≡ o + i → ⊥) → k ≡ None → SpreadAt less bytes b o x y k

spread_more : (less : ℕ) (byte : MemByte) (bytes : List MemByte) (b o x y : ℕ) (k : Option Cell) (t : Bool) → At b o x y t → SpreadAt less bytes b (o + 1) x y k → SpreadAt less (byte ∷ bytes) b o x y (cond t (Some (record { byte = byte; less = less })) k)
spread_more less byte bytes b o x y k t (here p q e) s =
    one_of 0 byte p (omega (arith, q)) refl (ap (λ z. cond z (Some (record { byte = byte; less = less })) k) e)
spread_more less byte bytes b o x y k t (there ne e) (one_of i d p q n f) =
    one_of (suc i) d p (omega (arith, q)) n (ap (λ z. cond z (Some (record { byte = byte; less = less })) k) e ∙ f)
spread_more less byte bytes b o x y k t (there ne e) (nothing none f) =
    nothing (other none) (ap (λ z. cond z (Some (record { byte = byte; less = less })) k) e ∙ f)
  where
    other : ((i : ℕ) → i < length bytes → x ≡ b → y ≡ (o + 1) + i → ⊥) → (i : ℕ) → i < length (byte ∷ bytes) → x ≡ b → y ≡ o + i → ⊥
    other none zero l p q = ne p (omega (arith, q))
    other none (suc i) l p q = none i (omega (arith, l)) p (omega (arith, q))

pub spread_at : (less : ℕ) (bytes : List MemByte) (b o x y : ℕ) → SpreadAt less bytes b o x y (spread less bytes b o x y)
spread_at less [] b o x y = nothing (λ i l. absurd (omega (arith, l))) refl
spread_at less (byte ∷ bytes) b o x y =
    spread_more less byte bytes b o x y (spread less bytes b (o + 1) x y) (at_place b o x y) (where_is b o x y) (spread_at less bytes b (o + 1) x y)

pub nth_within : {A : Type 0} (xs : List A) (i : ℕ) → i < length xs → (x : A) × (nth xs i ≡ Some x)
nth_within [] i l = absurd (omega arith)
nth_within (x ∷ xs) zero l = (x, refl)
nth_within (x ∷ xs) (suc i) l = nth_within xs i (omega arith)

pub nth_replicate : {A : Type 0} (n i : ℕ) (a : A) → i < n → nth (replicate n a) i ≡ Some a
nth_replicate zero i a l = absurd (omega arith)
nth_replicate (suc n) zero a l = refl
nth_replicate (suc n) (suc i) a l = nth_replicate n i a (omega arith)

past_cell : (b o y : ℕ) (t : Bool) (c k : Option Cell) → At b o b y t → o < y → cond t c k ≡ k
past_cell b o y t c k (here p q e) below = absurd (omega (arith, q))
past_cell b o y t c k (there ne e) below = ap (λ z. cond z c k) e

at_cell : (b o : ℕ) (t : Bool) (c k : Option Cell) → At b o b o t → cond t c k ≡ c
at_cell b o t c k (here p q e) = ap (λ z. cond z c k) e
at_cell b o t c k (there ne e) = absurd (ne refl refl)

-- what was put at a place stands there
pub cell_here : (b o : ℕ) (c : Cell) (h : Heaplet) → with_cell b o c h b o ≡ Some c
cell_here b o c h = at_cell b o (at_place b o b o) (Some c) (h b o) (where_is b o b o)

-- and what stands behind it is as it was
pub cell_past : (b o y : ℕ) (c : Cell) (h : Heaplet) → o < y → with_cell b o c h b y ≡ h b y
cell_past b o y c h below = past_cell b o y (at_place b o b y) (Some c) (h b y) (where_is b o b y) below

twice_at : (t : Bool) (c d k : Option Cell) → cond t c (cond t d k) ≡ cond t c k
twice_at true c d k = refl
twice_at false c d k = refl

-- the last cell that was put at a place stands there
pub twice : (b o : ℕ) (c d : Cell) (h : Heaplet) → with_cell b o c (with_cell b o d h) ≡ with_cell b o c h
twice b o c d h = λ i x y. twice_at (at_place b o x y) (Some c) (Some d) (h x y) i

-- the heaplet has the bytes that were spread
pub spread_has : (less : ℕ) (bytes : List MemByte) (b o : ℕ) → HasBytes (spread less bytes b o) bytes b o
spread_has less [] b o = tt
spread_has less (byte ∷ bytes) b o =
    let c : Cell = record { byte = byte; less = less } in
    (ap byte_of (cell_here b o c (spread less bytes b (o + 1))), behind bytes b o (o + 1) c (spread less bytes b (o + 1)) (omega arith) (spread_has less bytes b (o + 1)))
  where
    behind : (bytes : List MemByte) (b o p : ℕ) (c : Cell) (h : Heaplet) → o < p → HasBytes h bytes b p → HasBytes (with_cell b o c h) bytes b p
    behind [] b o p c h below w = tt
    behind (x ∷ xs) b o p c h below w = (ap byte_of (cell_past b o p c h below) ∙ w.0, behind xs b o (p + 1) c h (omega arith) w.1)
