-- An expression over a heaplet in the place of memory.
use Rattle.std.specs.Prelude.{ℕ, ◌==◌, ◌&&◌, ◌||◌, Bool, List, is_some}
use Rattle.floyd_clight_machine.specs.Looking.{Look}
use Rattle.floyd_clight_machine.specs.Machine.{Program, LocalBlock, function_at, block_named}
use Rattle.floyd_clight_heap.specs.Heaplet.{Heaplet, byte_of}

-- the start of a function
abbrev pub is_function_start : Program → ℕ → ℕ → Bool
is_function_start P block offset = offset == 0 && is_some (function_at P block)

-- the bytes of a heaplet, which are valid, as the starts of functions are
abbrev pub seen : Program → List LocalBlock → Heaplet → Look
seen P blocks h = record {
  byte_at = λ block offset. byte_of (h block offset);
  is_valid = λ block offset. is_some (h block offset) || is_function_start P block offset;
  block_of = block_named P blocks;
}
