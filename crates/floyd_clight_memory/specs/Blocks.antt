-- What becomes of the blocks of a memory.
use Rattle.std.specs.Prelude.{◌≡◌, ◌≢◌, ℕ, true, List, map, Option, Some, replicate}
use Rattle.floyd_int.specs.declared.kinds.Value.{Value}
use Rattle.floyd_memval.specs.declared.bytes.MemByte.TheVariants.{Undef}
use Rattle.floyd_memval.specs.declared.bytes.Chunk.{Chunk}
use Rattle.floyd_clight_memory.specs.Memory.{Mem, Block, Slot, Perm, Local, Freeable, all_include, nth, next, alloc, free, store}

abbrev pub perms : List Slot → List (Option Perm)
perms slots = map (λ (s : Slot). s.perm) slots

-- both are of one kind and one size, with the same permissions
pub record Alike (b c : Block) : Type 0 where
  pub kind : c.kind ≡ b.kind
  pub perms : perms c.slots ≡ perms b.slots

-- where the number is that of a block b, it is now that of one like it
abbrev pub StaysAlike : Mem → Mem → Type 0
StaysAlike m n = (block : ℕ) (b : Block) → nth m block ≡ Some b → (c : Block) × (nth n block ≡ Some c) × Alike b c

-- A store changes no kind, no size and no permission.
abbrev pub StoresKeepBlocks : Type 0
StoresKeepBlocks = (c : Chunk) (m n : Mem) (block offset : ℕ) (v : Value) → store c m block offset v ≡ Some n → StaysAlike m n

-- a new block of that size, for a local variable
abbrev pub fresh : ℕ → Block
fresh size = record { kind = Local; slots = replicate size (record { byte = Undef; perm = Some Freeable }) }

-- A new block has the next number, and the others are as they were.
abbrev pub NewBlocksAreNext : Type 0
NewBlocksAreNext =
    (m : Mem) (size : ℕ) →
    (nth (alloc m size) (next m) ≡ Some (fresh size)) × ((block : ℕ) (b : Block) → nth m block ≡ Some b → nth (alloc m size) block ≡ Some b)

-- To free a block changes no other block.
abbrev pub FreesChangeOne : Type 0
FreesChangeOne = (m n : Mem) (block other : ℕ) → free m block ≡ Some n → block ≢ other → nth n other ≡ nth m other

-- A block that is Freeable on its whole size may be freed.
abbrev pub FreeableMayBeFreed : Type 0
FreeableMayBeFreed = (m : Mem) (block : ℕ) (b : Block) → nth m block ≡ Some b → all_include Freeable b.slots ≡ true → (n : Mem) × (free m block ≡ Some n)
