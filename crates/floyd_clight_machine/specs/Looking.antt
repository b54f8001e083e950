-- How an evaluation looks at what is around it: bytes, validity, and the blocks of names.
use Rattle.std.specs.Prelude.{ℕ, zero, suc, ◌+◌, ◌||◌, Bool, false, List, [], ◌∷◌, Option, Some, None, option_map, option_and_then, if◌then◌else◌}
use Rattle.floyd_int.specs.declared.kinds.Value.{Value}
use Rattle.floyd_int.specs.declared.kinds.Value.TheVariants.{Vptr}
use Rattle.floyd_ctypes.specs.declared.ctype.CType.{CType, Void, Int, Pointer', Array', Struct, Function'}
use Rattle.floyd_memval.specs.declared.bytes.Chunk.{Chunk}
use Rattle.floyd_memval.specs.declared.bytes.Chunk.TheVariants.{Ptr}
use Rattle.floyd_memval.specs.declared.bytes.MemByte.{MemByte}
use Rattle.floyd_memval.specs.Chunks.{kind_chunk}
use Rattle.floyd_clight_memory.specs.Loads.{load_by}
use Rattle.floyd_clight.specs.declared.syntax.Binding.{Binding}

-- a name, as its bytes
abbrev pub Ident : Type 0
Ident = List ℕ

-- a place in memory
pub record Spot : Type 0 where
  pub block : ℕ
  pub offset : ℕ

-- A way to look: the byte that may be read at a place, whether there is some permission at a place, and the block of a
-- name, either of a local variable or of the file. The machine looks at its memory, a rule at a heaplet.
pub record Look : Type 0 where
  pub byte_at : ℕ → ℕ → Option MemByte
  pub is_valid : ℕ → ℕ → Bool
  pub block_of : Binding → Ident → Option ℕ

abbrev pub is_valid_below : Look → ℕ → ℕ → Bool
is_valid_below look block zero = false
is_valid_below look block (suc offset) = look.is_valid block offset

-- the place is valid, or the one below it
abbrev pub is_weakly_valid : Look → ℕ → ℕ → Bool
is_weakly_valid look block offset = look.is_valid block offset || is_valid_below look block offset

-- the value at a chunk that stands at a place
abbrev pub load : Look → Chunk → Spot → Option Value
load look c s = load_by look.byte_at c s.block s.offset

abbrev pub address : Spot → Value
address s = Vptr s.block s.offset

-- What stands at a place of that type: a number or a pointer is loaded, and an array, a struct and a function give their
-- address.
abbrev pub value_at : Look → CType → Spot → Option Value
value_at look Void s = None
value_at look (Int k) s = load look (kind_chunk k) s
value_at look (Pointer' p t) s = load look Ptr s
value_at look (Array' p t n) s = Some (address s)
value_at look (Struct tag) s = Some (address s)
value_at look (Function' shape ps p r) s = Some (address s)
