-- Blocks by their numbers, through stores, new blocks and frees.
use Rattle.std.proofs.Common.{◌≡◌, ◌≢◌, ℕ, zero, suc, ◌<◌, ◌+◌, List, [], ◌∷◌, ◌++◌, length, Option, Some, None, Bool, true, false, cond, refl, sym, ◌∙◌, subst, ap, arith}
use Rattle.std.specs.Prelude.{replicate}
use Rattle.floyd_int.specs.declared.kinds.Value.{Value}
use Rattle.floyd_memval.specs.declared.bytes.Chunk.{Chunk}
use Rattle.floyd_memval.specs.declared.bytes.MemByte.{MemByte}
use Rattle.floyd_memval.specs.Encoding.{encoding}
use Rattle.floyd_clight_memory.specs.Memory.{Mem, Block, Slot, Freeable, Writable, includes, all_include, nth, put, slot_of, slot, with_byte, with_slot, put_slot, put_byte, and_then, is_aligned, store_bytes, store, alloc, next, free, free_block, freed}
use Rattle.floyd_clight_memory.specs.Blocks.{perms, Alike, StaysAlike, fresh}

pub nth_put_other : {A : Type 0} → (xs : List A) (n k : ℕ) (y : A) → n ≢ k → nth (put xs n y) k ≡ nth xs k
nth_put_other [] n k y ne = refl
nth_put_other (x ∷ xs) zero zero y ne = absurd (ne refl)
nth_put_other (x ∷ xs) zero (suc k) y ne = refl
nth_put_other (x ∷ xs) (suc n) zero y ne = refl
nth_put_other (x ∷ xs) (suc n) (suc k) y ne = nth_put_other xs n k y (λ e. ne (ap suc e))

pub nth_below : {A : Type 0} → (xs : List A) (n : ℕ) (x : A) → nth xs n ≡ Some x → n < length xs
nth_below [] n x e = cc
nth_below (y ∷ xs) zero x e = omega arith
nth_below (y ∷ xs) (suc n) x e =
    let h = nth_below xs n x e in
    omega arith

pub nth_front : {A : Type 0} → (xs ys : List A) (n : ℕ) (x : A) → nth xs n ≡ Some x → nth (xs ++ ys) n ≡ Some x
nth_front [] ys n x e = cc
nth_front (y ∷ xs) ys zero x e = e
nth_front (y ∷ xs) ys (suc n) x e = nth_front xs ys n x e

pub nth_last : {A : Type 0} → (xs : List A) (y : A) → nth (xs ++ y ∷ []) (length xs) ≡ Some y
nth_last [] y = refl
nth_last (x ∷ xs) y = nth_last xs y

pub alike_same : (b : Block) → Alike b b
alike_same b = record { kind = refl; perms = refl }

pub alike_after : (a b c : Block) → Alike a b → Alike b c → Alike a c
alike_after a b c p q = record { kind = q.kind ∙ p.kind; perms = q.perms ∙ p.perms }

-- a block in the place of one like it
put_alike : (m : Mem) (n : ℕ) (b c : Block) → nth m n ≡ Some b → Alike b c → StaysAlike m (put m n c)
put_alike [] n b c e a k x f = cc
put_alike (z ∷ m) zero b c e a zero x f =
    let same : b ≡ x = cc in
    (c, refl, subst (λ y. Alike y c) same a)
put_alike (z ∷ m) zero b c e a (suc k) x f = (x, f, alike_same x)
put_alike (z ∷ m) (suc n) b c e a zero x f = (x, f, alike_same x)
put_alike (z ∷ m) (suc n) b c e a (suc k) x f = put_alike m n b c e a k x f

put_perms : (ss : List Slot) (n : ℕ) (s : Slot) (byte : MemByte) → nth ss n ≡ Some s → perms (put ss n (with_byte byte s)) ≡ perms ss
put_perms [] n s byte e = refl
put_perms (t ∷ ss) zero s byte e =
    let same : s ≡ t = cc in
    ap (λ (x : Slot). x.perm ∷ perms ss) same
put_perms (t ∷ ss) (suc n) s byte e = ap (λ ps. t.perm ∷ ps) (put_perms ss n s byte e)

slot_alike : (m : Mem) (block offset : ℕ) (byte : MemByte) (s : Slot) (b : Option Block) → nth m block ≡ b → slot_of b offset ≡ Some s → StaysAlike m (put_slot m block offset (with_byte byte s) b)
slot_alike m block offset byte s None e f = cc
slot_alike m block offset byte s (Some b) e f =
    put_alike m block b (with_slot offset (with_byte byte s) b) e (record { kind = refl; perms = put_perms b.slots offset s byte f })

some_is : {A : Type 0} → (x y : A) → Some x ≡ Some y → x ≡ y
some_is x y e = cc

byte_if : (m n : Mem) (block offset : ℕ) (byte : MemByte) (s : Slot) (t : Bool) → slot m block offset ≡ Some s → cond t (Some (put_slot m block offset (with_byte byte s) (nth m block))) None ≡ Some n → StaysAlike m n
byte_if m n block offset byte s true f e =
    subst (StaysAlike m) (some_is (put_slot m block offset (with_byte byte s) (nth m block)) n e) (slot_alike m block offset byte s (nth m block) refl f)
byte_if m n block offset byte s false f e = cc

byte_alike : (m n : Mem) (block offset : ℕ) (byte : MemByte) (s : Option Slot) → slot m block offset ≡ s → put_byte m block offset byte s ≡ Some n → StaysAlike m n
byte_alike m n block offset byte None f e = cc
byte_alike m n block offset byte (Some s) f e = byte_if m n block offset byte s (includes s.perm Writable) f e

pub stays_after : (m n q : Mem) → StaysAlike m n → StaysAlike n q → StaysAlike m q
stays_after m n q f g = λ k b e.
    let x = f k b e in
    let y = g k x.0 x.1 in
    (y.0, y.1, alike_after b x.0 y.0 x.2 y.2)

bytes_then : (bytes : List MemByte) (m n : Mem) (block offset : ℕ) (o : Option Mem) → ((q : Mem) → o ≡ Some q → StaysAlike m q) → ((q : Mem) → store_bytes bytes q block offset ≡ Some n → StaysAlike q n) → and_then o (λ q. store_bytes bytes q block offset) ≡ Some n → StaysAlike m n
bytes_then bytes m n block offset None f g e = cc
bytes_then bytes m n block offset (Some q) f g e = stays_after m q n (f q refl) (g q e)

bytes_alike : (bytes : List MemByte) (m n : Mem) (block offset : ℕ) → store_bytes bytes m block offset ≡ Some n → StaysAlike m n
bytes_alike [] m n block offset e = subst (StaysAlike m) (some_is m n e) (λ k b f. (b, f, alike_same b))
bytes_alike (byte ∷ bytes) m n block offset e =
    bytes_then bytes m n block (offset + 1) (put_byte m block offset byte (slot m block offset))
    (λ q f. byte_alike m q block offset byte (slot m block offset) refl f) (λ q f. bytes_alike bytes q n block (offset + 1) f) e

store_if : (t : Bool) (bytes : List MemByte) (m n : Mem) (block offset : ℕ) → cond t (store_bytes bytes m block offset) None ≡ Some n → StaysAlike m n
store_if true bytes m n block offset e = bytes_alike bytes m n block offset e
store_if false bytes m n block offset e = cc

-- a store changes no kind, no size and no permission
pub store_alike : (c : Chunk) (m n : Mem) (block offset : ℕ) (v : Value) → store c m block offset v ≡ Some n → StaysAlike m n
store_alike c m n block offset v e = store_if (is_aligned c offset) (encoding c v) m n block offset e

pub new_block : (m : Mem) (size : ℕ) → nth (alloc m size) (next m) ≡ Some (fresh size)
new_block m size = nth_last m (fresh size)

pub old_blocks : (m : Mem) (size : ℕ) (block : ℕ) (b : Block) → nth m block ≡ Some b → nth (alloc m size) block ≡ Some b
old_blocks m size block b e = nth_front m (fresh size ∷ []) block b e

pub fresh_size : (size : ℕ) (s : Slot) → length (replicate size s) ≡ size
fresh_size zero s = refl
fresh_size (suc n) s = ap suc (fresh_size n s)

pub fresh_whole : (size : ℕ) (byte : MemByte) → all_include Freeable (replicate size (record { byte = byte; perm = Some Freeable })) ≡ true
fresh_whole zero byte = refl
fresh_whole (suc n) byte = fresh_whole n byte

pub free_is : (m : Mem) (block : ℕ) (b : Block) → nth m block ≡ Some b → all_include Freeable b.slots ≡ true → free m block ≡ Some (put m block (freed b))
free_is m block b e w = ap (free_block m block) e ∙ ap (λ t. cond t (Some (put m block (freed b))) None) w

other_if : (m n : Mem) (block other : ℕ) (b : Block) (t : Bool) → block ≢ other → cond t (Some (put m block (freed b))) None ≡ Some n → nth n other ≡ nth m other
other_if m n block other b true ne e = ap (λ q. nth q other) (sym (some_is (put m block (freed b)) n e)) ∙ nth_put_other m block other (freed b) ne
other_if m n block other b false ne e = cc

free_other_at : (m n : Mem) (block other : ℕ) (b : Option Block) → block ≢ other → free_block m block b ≡ Some n → nth n other ≡ nth m other
free_other_at m n block other None ne e = cc
free_other_at m n block other (Some b) ne e = other_if m n block other b (all_include Freeable b.slots) ne e

pub free_other : (m n : Mem) (block other : ℕ) → free m block ≡ Some n → block ≢ other → nth n other ≡ nth m other
free_other m n block other e ne = free_other_at m n block other (nth m block) ne e
