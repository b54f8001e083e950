-- Places: what stands at a number of a list, and the slots of a memory.
use Rattle.std.proofs.Common.{◌≡◌, ℕ, zero, suc, ◌≤◌, ◌==◌, ◌&&◌, Bool, true, false, List, [], ◌∷◌, length, Option, Some, None, refl, sym, ◌∙◌, ap, arith, eqb-true, eq-eqb}
use Rattle.std.proofs.lemmas.Bool.{and_parts, and_from, eqb-false}
use Rattle.floyd_clight_memory.proofs.Places.{nth_put_other}
use Rattle.floyd_clight_memory.specs.Memory.{Mem, Block, Slot, nth, put, slot_of, slot, with_slot, put_slot}

pub nth_put_same : {A : Type 0} (xs : List A) (n : ℕ) (x y : A) → nth xs n ≡ Some x → nth (put xs n y) n ≡ Some y
nth_put_same [] n x y e = cc
nth_put_same (z ∷ xs) zero x y e = refl
nth_put_same (z ∷ xs) (suc n) x y e = nth_put_same xs n x y e

pub nth_end : {A : Type 0} (xs : List A) (n : ℕ) → length xs ≤ n → nth xs n ≡ None
nth_end [] n h = refl
nth_end (x ∷ xs) zero h = absurd (omega arith)
nth_end (x ∷ xs) (suc n) h = nth_end xs n (omega arith)

-- the place (x, y) that is asked for is the place (b, o), or another
pub data At (b o x y : ℕ) (t : Bool) : Type 0 where
  here : (x ≡ b) → (y ≡ o) → t ≡ true → At b o x y t
  there : (x ≡ b → y ≡ o → ⊥) → t ≡ false → At b o x y t

abbrev pub at_place : ℕ → ℕ → ℕ → ℕ → Bool
at_place b o x y = x == b && y == o

not_both : (t : Bool) → t ≡ true → t ≡ false → ⊥
not_both t p q = cc

where_by : (b o x y : ℕ) (t : Bool) → at_place b o x y ≡ t → At b o x y t
where_by b o x y true e =
    let p = and_parts (x == b) (y == o) e in
    here (eqb-true x b p.0) (eqb-true y o p.1) refl
where_by b o x y false e = there (λ p q. not_both (at_place b o x y) (and_from (x == b) (y == o) (eq-eqb x b p) (eq-eqb y o q)) e) refl

pub where_is : (b o x y : ℕ) → At b o x y (at_place b o x y)
where_is b o x y = where_by b o x y (at_place b o x y) refl

-- the block that a slot stands in
pub record Lies (m : Mem) (b o : ℕ) (s : Slot) : Type 0 where
  pub there : Block
  pub block : nth m b ≡ Some there
  pub slot : nth there.slots o ≡ Some s

lies_in : (m : Mem) (b o : ℕ) (s : Slot) (k : Option Block) → nth m b ≡ k → slot_of k o ≡ Some s → Lies m b o s
lies_in m b o s None e f = cc
lies_in m b o s (Some k) e f = record { there = k; block = e; slot = f }

pub lies : (m : Mem) (b o : ℕ) (s : Slot) → slot m b o ≡ Some s → Lies m b o s
lies m b o s e = lies_in m b o s (nth m b) refl e

-- the slot that was put there
pub slot_put_same : (m : Mem) (b o : ℕ) (s t : Slot) → slot m b o ≡ Some s → slot (put_slot m b o t (nth m b)) b o ≡ Some t
slot_put_same m b o s t e =
    let l = lies m b o s e in
    ap (λ k. slot (put_slot m b o t k) b o) l.block
    ∙ ap (λ k. slot_of k o) (nth_put_same m b l.there (with_slot o t l.there) l.block)
    ∙ nth_put_same l.there.slots o s t l.slot

slot_put_in : (m : Mem) (b o x y : ℕ) (t : Slot) (k : Block) → nth m b ≡ Some k → (b ≡ x → o ≡ y → ⊥) → (d : Bool) → (b == x) ≡ d → slot (put m b (with_slot o t k)) x y ≡ slot m x y
slot_put_in m b o x y t k e ne true d =
    let same : b ≡ x = eqb-true b x d in
    ap (λ z. slot (put m b (with_slot o t k)) z y) (sym same)
    ∙ ap (λ z. slot_of z y) (nth_put_same m b k (with_slot o t k) e)
    ∙ nth_put_other k.slots o y t (ne same)
    ∙ ap (λ z. slot_of z y) (sym e)
    ∙ ap (λ z. slot m z y) same
slot_put_in m b o x y t k e ne false d = ap (λ z. slot_of z y) (nth_put_other m b x (with_slot o t k) (eqb-false b x d))

-- the other slots are as they were
pub slot_put_other : (m : Mem) (b o x y : ℕ) (s t : Slot) → slot m b o ≡ Some s → (x ≡ b → y ≡ o → ⊥) → slot (put_slot m b o t (nth m b)) x y ≡ slot m x y
slot_put_other m b o x y s t e ne =
    let l = lies m b o s e in
    ap (λ k. slot (put_slot m b o t k) x y) l.block ∙ slot_put_in m b o x y t l.there l.block (λ p q. ne (sym p) (sym q)) (b == x) refl
