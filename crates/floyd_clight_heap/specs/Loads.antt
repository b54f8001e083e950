-- What a heaplet shows of its bytes.
use Rattle.std.specs.Prelude.{◌≡◌, ℕ, Option, Some}
use Rattle.floyd_memval.specs.declared.bytes.MemByte.{MemByte}
use Rattle.floyd_clight_heap.specs.Heaplet.{Heaplet, byte_of}

abbrev pub in_heaplet : Heaplet → ℕ → ℕ → Option MemByte
in_heaplet h block offset = byte_of (h block offset)

-- each byte of the heaplet is seen
abbrev pub Shows : (ℕ → ℕ → Option MemByte) → Heaplet → Type 0
Shows byte_at h = (block offset : ℕ) (byte : MemByte) → in_heaplet h block offset ≡ Some byte → byte_at block offset ≡ Some byte
