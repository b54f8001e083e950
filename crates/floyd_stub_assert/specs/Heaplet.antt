-- Parts of memory: a heaplet has a byte at some places. One that fits a memory has finitely many places.
use Rattle.std.specs.Prelude.{◌≡◌, ℕ, true, Option, Some, None}
use Rattle.floyd_memval.specs.declared.bytes.MemByte.{MemByte}
use Rattle.floyd_clight_memory.specs.Memory.{Mem, Slot, Writable, includes, slot}
use Rattle.floyd_stub_machine.specs.Evaluation.{Look}

pub record Cell : Type 0 where
  pub byte : MemByte

abbrev pub Heaplet : Type 0
Heaplet = ℕ → ℕ → Option Cell

abbrev pub empty : Heaplet
empty = λ block offset. None

-- at one place: what only one of both has, the sum has; none is in both
abbrev pub JoinsAt : Option Cell → Option Cell → Option Cell → Type 0
JoinsAt None g k = k ≡ g
JoinsAt (Some c) None k = k ≡ Some c
JoinsAt (Some c) (Some d) k = ⊥

-- h + g is k
pub record Joins (h g k : Heaplet) : Type 0 where
  pub at : (block offset : ℕ) → JoinsAt (h block offset) (g block offset) (k block offset)

-- at one place: the memory has that byte, and it may be written
abbrev pub FitsAt : Option Cell → Option Slot → Type 0
FitsAt None s = Unit {0}
FitsAt (Some c) None = ⊥
FitsAt (Some c) (Some s) = (includes s.perm Writable ≡ true) × (s.byte ≡ c.byte)

pub record Fits (h : Heaplet) (m : Mem) : Type 0 where
  pub at : (block offset : ℕ) → FitsAt (h block offset) (slot m block offset)

abbrev pub byte_of : Option Cell → Option MemByte
byte_of None = None
byte_of (Some c) = Some c.byte

-- a heaplet in the place of memory
abbrev pub seen : Heaplet → Look
seen h = record { byte_at = λ block offset. byte_of (h block offset) }

-- h has the place
pub record Within (h : Heaplet) (block offset : ℕ) : Type 0 where
  pub cell : Cell
  pub has : h block offset ≡ Some cell

-- h has the place, and no heaplet that can be added to it has
pub record Owned (h : Heaplet) (block offset : ℕ) : Type 0 where
  pub cell : Cell
  pub has : h block offset ≡ Some cell
  pub alone : (g k : Heaplet) → Joins h g k → g block offset ≡ None
