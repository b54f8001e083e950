-- What holds of heaplets.
use Rattle.std.specs.Prelude.{◌≡◌, ℕ, true, length, List, Option, Some, replicate}
use Rattle.floyd_memval.specs.declared.bytes.MemByte.{MemByte}
use Rattle.floyd_memval.specs.declared.bytes.MemByte.TheVariants.{Undef}
use Rattle.floyd_memval.specs.declared.bytes.Chunk.{Chunk}
use Rattle.floyd_memval.specs.Chunks.{chunk_size}
use Rattle.floyd_memval.specs.Decoding.{decoding}
use Rattle.floyd_clight_heap.specs.Loads.{Shows, in_heaplet}
use Rattle.floyd_clight_memory.specs.Loads.{in_memory, load_by}
use Rattle.floyd_clight_memory.specs.Memory.{Mem, Block, Slot, Freeable, Readable, all_include, alloc, free, includes, is_aligned, is_valid, next, nth, slot, store_bytes}
use Rattle.floyd_clight_heap.specs.Heaplet.{Heaplet, HasBytes, empty, Joins, Fits, Within, Owned, OwnsFrom, byte_of, laid, spread}

-- sums are commutative
abbrev pub Commutes : Type 0
Commutes = (h g k : Heaplet) → Joins h g k → Joins g h k

-- sums are associative, where one of them is defined
abbrev pub Associates : Type 0
Associates = (a b c ab abc : Heaplet) → Joins a b ab → Joins ab c abc → (bc : Heaplet) × Joins b c bc × Joins a bc abc

abbrev pub AssociatesBack : Type 0
AssociatesBack = (a b c bc abc : Heaplet) → Joins b c bc → Joins a bc abc → (ab : Heaplet) × Joins a b ab × Joins ab c abc

-- the empty heaplet is a unit of sums
abbrev pub HasUnit : Type 0
HasUnit = (h k : Heaplet) → Joins h empty h × (Joins h empty k → k ≡ h)

-- two heaplets have one sum at most
abbrev pub SumsAreOne : Type 0
SumsAreOne = (h g k l : Heaplet) → Joins h g k → Joins h g l → k ≡ l

-- a part of what fits a memory fits it
abbrev pub PartsFit : Type 0
PartsFit = (h F k : Heaplet) (m : Mem) → Joins h F k → Fits k m → Fits h m

-- what a part has and owns, the sum has and owns
abbrev pub PartsAreWithin : Type 0
PartsAreWithin = (h F k : Heaplet) (block offset : ℕ) → Joins h F k → Within h block offset → Within k block offset

abbrev pub PartsAreOwned : Type 0
PartsAreOwned = (h F k : Heaplet) (block offset : ℕ) → Joins h F k → Owned h block offset → Owned k block offset

-- The store of bytes goes through beside a frame: h with the bytes laid down and the same frame make the new sum, which
-- fits the new memory.
pub record Stored (h F k : Heaplet) (m : Mem) (bytes : List MemByte) (block offset : ℕ) : Type 0 where
  pub mem : Mem
  pub is : store_bytes bytes m block offset ≡ Some mem
  pub joins : Joins (laid bytes block offset h) F (laid bytes block offset k)
  pub fits : Fits (laid bytes block offset k) mem

-- bytes may be stored where a heaplet owns the places
abbrev pub OwnersStore : Type 0
OwnersStore =
    (h F k : Heaplet) (m : Mem) (bytes : List MemByte) (block offset : ℕ) →
    Joins h F k → Fits k m → OwnsFrom (length bytes) h block offset → Stored h F k m bytes block offset

-- a heaplet that can be added to what fitted before, with a sum that fits
pub record Added (h F : Heaplet) (m : Mem) : Type 0 where
  pub sum : Heaplet
  pub joins : Joins h F sum
  pub fits : Fits sum m

-- all bytes of a new block can be added to what fitted before
abbrev pub NewBlocksAreApart : Type 0
NewBlocksAreApart =
    (F : Heaplet) (m : Mem) (size : ℕ) → Fits F m → Added (spread 15 (replicate size Undef) (next m) 0) F (alloc m size)

-- the block is freed, and what stood beside it fits
pub record Freed (F : Heaplet) (m : Mem) (block : ℕ) : Type 0 where
  pub mem : Mem
  pub is : free m block ≡ Some mem
  pub fits : Fits F mem

-- a block may be freed whole where a heaplet owns all its bytes
abbrev pub OwnersFree : Type 0
OwnersFree =
    (h F k : Heaplet) (m : Mem) (block : ℕ) (b : Block) →
    Joins h F k → Fits k m → nth m block ≡ Some b → all_include Freeable b.slots ≡ true → OwnsFrom (length b.slots) h block 0 → Freed F m block

-- a place that a heaplet has is valid
abbrev pub PlacesAreValid : Type 0
PlacesAreValid = (h : Heaplet) (m : Mem) (block offset : ℕ) → Fits h m → Within h block offset → is_valid m block offset ≡ true

-- a slot that has that byte and may be read
pub record MayBeRead (byte : MemByte) (s : Option Slot) : Type 0 where
  pub slot : Slot
  pub is : s ≡ Some slot
  pub readable : includes slot.perm Readable ≡ true
  pub same : slot.byte ≡ byte

-- the bytes of a heaplet are those of a memory that it fits, and may be read there
abbrev pub BytesAreRead : Type 0
BytesAreRead = (h : Heaplet) (m : Mem) (block offset : ℕ) (byte : MemByte) → Fits h m → byte_of (h block offset) ≡ Some byte → MayBeRead byte (slot m block offset)

-- a heaplet shows its bytes, and so does a memory that it fits
abbrev pub BytesAreShown : Type 0
BytesAreShown = (h : Heaplet) (m : Mem) → Fits h m → Shows (in_heaplet h) h × Shows (in_memory m) h

-- whatever shows the bytes of a heaplet, the value of those of a chunk is loaded by it
abbrev pub BytesAreLoaded : Type 0
BytesAreLoaded =
    (byte_at : ℕ → ℕ → Option MemByte) (h : Heaplet) (c : Chunk) (bytes : List MemByte) (block offset : ℕ) →
    Shows byte_at h → is_aligned c offset ≡ true → length bytes ≡ chunk_size c → HasBytes h bytes block offset →
    load_by byte_at c block offset ≡ Some (decoding c bytes)
