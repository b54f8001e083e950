-- Heaplets: some places of memory, each with its byte and with a share of it. One that fits a memory has finitely many
-- places.
use Rattle.std.specs.Prelude.{◌≡◌, ℕ, zero, suc, ◌+◌, ◌<◌, ◌≤◌, ◌==◌, ◌&&◌, true, List, [], ◌∷◌, Option, Some, None, if◌then◌else◌}
use Rattle.floyd_memval.specs.declared.bytes.MemByte.{MemByte}
use Rattle.floyd_clight_memory.specs.Memory.{Mem, Slot, Readable, Writable, includes, slot}

-- a byte with a share from 1 to 16, which is kept as its number less 1
pub record Cell : Type 0 where
  pub byte : MemByte
  pub less : ℕ

-- the cell at a block and an offset, where the heaplet has the place
abbrev pub Heaplet : Type 0
Heaplet = ℕ → ℕ → Option Cell

abbrev pub empty : Heaplet
empty = λ block offset. None

-- a byte of which both have a share, with the sum of the shares
abbrev pub both : Cell → Cell → Cell
both c d = record { byte = c.byte; less = c.less + d.less + 1 }

-- At one place: what only one of them has, the sum has. Where both have it, the bytes are equal, and the shares add up to
-- 16 at most.
abbrev pub JoinsAt : Option Cell → Option Cell → Option Cell → Type 0
JoinsAt None g k = k ≡ g
JoinsAt (Some c) None k = k ≡ Some c
JoinsAt (Some c) (Some d) k = (c.byte ≡ d.byte) × (c.less + d.less + 2 ≤ 16) × (k ≡ Some (both c d))

-- h + g is k
pub record Joins (h g k : Heaplet) : Type 0 where
  pub at : (block offset : ℕ) → JoinsAt (h block offset) (g block offset) (k block offset)

-- At one place: the share is 16 at most, and the memory has the same byte, which may be written where the share is 16, and
-- be read where it is less.
abbrev pub FitsAt : Option Cell → Option Slot → Type 0
FitsAt None s = Unit {0}
FitsAt (Some c) None = ⊥
FitsAt (Some c) (Some s) = (c.less < 16) × (s.byte ≡ c.byte) × (includes s.perm Readable ≡ true) × (c.less ≡ 15 → includes s.perm Writable ≡ true)

pub record Fits (h : Heaplet) (m : Mem) : Type 0 where
  pub at : (block offset : ℕ) → FitsAt (h block offset) (slot m block offset)

-- h has the place
pub record Within (h : Heaplet) (block offset : ℕ) : Type 0 where
  pub cell : Cell
  pub has : h block offset ≡ Some cell

-- h has the place, and nothing can be added there
pub record Owned (h : Heaplet) (block offset : ℕ) : Type 0 where
  pub cell : Cell
  pub has : h block offset ≡ Some cell
  pub alone : (g k : Heaplet) → Joins h g k → g block offset ≡ None

-- the bytes of a heaplet
abbrev pub byte_of : Option Cell → Option MemByte
byte_of None = None
byte_of (Some c) = Some c.byte

-- the heaplet with a cell at one place
abbrev pub with_cell : ℕ → ℕ → Cell → Heaplet → Heaplet
with_cell block offset c h = λ b o. if b == block && o == offset then Some c else h b o

-- these bytes from an offset on, each with that share less 1, and nothing else
abbrev pub spread : ℕ → List MemByte → ℕ → ℕ → Heaplet
spread less [] block offset = empty
spread less (byte ∷ bytes) block offset = with_cell block offset (record { byte = byte; less = less }) (spread less bytes block (offset + 1))

-- the heaplet with these bytes from an offset on, each with the share 16
abbrev pub laid : List MemByte → ℕ → ℕ → Heaplet → Heaplet
laid [] block offset h = h
laid (byte ∷ bytes) block offset h = with_cell block offset (record { byte = byte; less = 15 }) (laid bytes block (offset + 1) h)

-- h has these bytes from an offset on
abbrev pub HasBytes : Heaplet → List MemByte → ℕ → ℕ → Type 0
HasBytes h [] block offset = Unit {0}
HasBytes h (byte ∷ bytes) block offset = (byte_of (h block offset) ≡ Some byte) × HasBytes h bytes block (offset + 1)

-- h has n places from an offset on, and nothing can be added to any of them
abbrev pub OwnsFrom : ℕ → Heaplet → ℕ → ℕ → Type 0
OwnsFrom zero h block offset = Unit {0}
OwnsFrom (suc n) h block offset = Owned h block offset × OwnsFrom n h block (offset + 1)
