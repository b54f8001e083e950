-- Loads by a way to look at bytes: the machine looks at its memory, a rule at a heaplet.
use Rattle.std.specs.Prelude.{ℕ, zero, suc, ◌+◌, List, [], ◌∷◌, Option, Some, None, option_map, option_and_then, if◌then◌else◌}
use Rattle.floyd_int.specs.declared.kinds.Value.{Value}
use Rattle.floyd_memval.specs.declared.bytes.Chunk.{Chunk}
use Rattle.floyd_memval.specs.declared.bytes.MemByte.{MemByte}
use Rattle.floyd_memval.specs.Chunks.{chunk_size}
use Rattle.floyd_memval.specs.Decoding.{decoding}
use Rattle.floyd_clight_memory.specs.Memory.{Mem, Slot, Readable, includes, is_aligned, slot}

-- that many bytes from an offset on, where all of them are seen
abbrev pub bytes_by : (ℕ → ℕ → Option MemByte) → ℕ → ℕ → ℕ → Option (List MemByte)
bytes_by byte_at zero block offset = Some []
bytes_by byte_at (suc n) block offset =
    option_and_then (λ byte. option_map (λ bytes. byte ∷ bytes) (bytes_by byte_at n block (offset + 1))) (byte_at block offset)

-- the value at a chunk, which stands at a multiple of its size
abbrev pub load_by : (ℕ → ℕ → Option MemByte) → Chunk → ℕ → ℕ → Option Value
load_by byte_at c block offset = if is_aligned c offset then option_map (decoding c) (bytes_by byte_at (chunk_size c) block offset) else None

-- the byte of a slot, where it may be read
abbrev pub readable : Option Slot → Option MemByte
readable None = None
readable (Some s) = if includes s.perm Readable then Some s.byte else None

-- what a memory shows
abbrev pub in_memory : Mem → ℕ → ℕ → Option MemByte
in_memory m block offset = readable (slot m block offset)
