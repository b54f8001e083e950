-- CompCert's memory: blocks of bytes with permissions. A block is named by its number, from 0 on.
use Rattle.std.specs.Prelude.{ℕ, zero, suc, ◌+◌, ◌%◌, ◌==◌, ◌||◌, ◌<◌, ◌^◌, Bool, true, false, List, [], ◌∷◌, ◌++◌, map, length, replicate, Option, Some, None, if◌then◌else◌, nat_le, is_some}
use Rattle.floyd_int.specs.declared.kinds.Value.{Value}
use Rattle.floyd_int.specs.declared.kinds.Value.TheVariants.{Vundef, Vint, Vlong, Vptr}
use Rattle.floyd_memval.specs.declared.bytes.Chunk.{Chunk}
use Rattle.floyd_memval.specs.Chunks.{chunk_size}
use Rattle.floyd_memval.specs.Encoding.{encoding}
use Rattle.floyd_memval.specs.declared.bytes.MemByte.{MemByte}
use Rattle.floyd_memval.specs.declared.bytes.MemByte.TheVariants.{Undef, Byte, Fragment}

-- what may be done with a byte; each includes the next
pub data Perm : Type 0 where
  Freeable Writable Readable Nonempty : Perm

-- what a block is for; an external function may make blocks of its own
pub data Kind : Type 0 where
  Global Local Ext Function : Kind

-- a byte of a block, with its permission or none
pub record Slot : Type 0 where
  pub byte : MemByte
  pub perm : Option Perm

-- its size is the number of its slots
pub record Block : Type 0 where
  pub kind : Kind
  pub slots : List Slot

-- the block of number b stands at place b, so that the next block has the length as its number
abbrev pub Mem : Type 0
Mem = List Block

abbrev pub next : Mem → ℕ
next m = length m

-- how much a permission includes
abbrev pub strength : Perm → ℕ
strength Freeable = 4
strength Writable = 3
strength Readable = 2
strength Nonempty = 1

abbrev pub includes : Option Perm → Perm → Bool
includes None wanted = false
includes (Some p) wanted = nat_le (strength wanted) (strength p)

-- what stands at a number of a list
abbrev pub nth : {A : Type 0} → List A → ℕ → Option A
nth [] n = None
nth (x ∷ xs) zero = Some x
nth (x ∷ xs) (suc n) = nth xs n

-- the list with y at that number, where there is one
abbrev pub put : {A : Type 0} → List A → ℕ → A → List A
put [] n y = []
put (x ∷ xs) zero y = y ∷ xs
put (x ∷ xs) (suc n) y = x ∷ put xs n y

abbrev pub slot_of : Option Block → ℕ → Option Slot
slot_of None offset = None
slot_of (Some b) offset = nth b.slots offset

-- the slot at an offset of a block
abbrev pub slot : Mem → ℕ → ℕ → Option Slot
slot m block offset = slot_of (nth m block) offset

-- every slot of them includes that permission
abbrev pub all_include : Perm → List Slot → Bool
all_include p [] = true
all_include p (s ∷ ss) = if includes s.perm p then all_include p ss else false

-- the next block, of that many undefined bytes, for a local variable
abbrev pub alloc : Mem → ℕ → Mem
alloc m size = m ++ record { kind = Local; slots = replicate size (record { byte = Undef; perm = Some Freeable }) } ∷ []

-- the slot without permission
abbrev pub freed_slot : Slot → Slot
freed_slot s = record { byte = s.byte; perm = None }

abbrev pub freed : Block → Block
freed b = record { kind = b.kind; slots = map freed_slot b.slots }

abbrev pub free_block : Mem → ℕ → Option Block → Option Mem
free_block m block None = None
free_block m block (Some b) = if all_include Freeable b.slots then Some (put m block (freed b)) else None

-- the memory with the whole block freed, where that is allowed
abbrev pub free : Mem → ℕ → Option Mem
free m block = free_block m block (nth m block)

-- the slot with another byte
abbrev pub with_byte : MemByte → Slot → Slot
with_byte byte s = record { byte = byte; perm = s.perm }

abbrev pub with_slot : ℕ → Slot → Block → Block
with_slot offset s b = record { kind = b.kind; slots = put b.slots offset s }

abbrev pub put_slot : Mem → ℕ → ℕ → Slot → Option Block → Mem
put_slot m block offset s None = m
put_slot m block offset s (Some b) = put m block (with_slot offset s b)

abbrev pub put_byte : Mem → ℕ → ℕ → MemByte → Option Slot → Option Mem
put_byte m block offset byte None = None
put_byte m block offset byte (Some s) = if includes s.perm Writable then Some (put_slot m block offset (with_byte byte s) (nth m block)) else None

abbrev pub and_then : Option Mem → (Mem → Option Mem) → Option Mem
and_then None f = None
and_then (Some m) f = f m

-- the memory with these bytes from an offset on, where all of them may be written
abbrev pub store_bytes : List MemByte → Mem → ℕ → ℕ → Option Mem
store_bytes [] m block offset = Some m
store_bytes (byte ∷ bytes) m block offset = and_then (put_byte m block offset byte (slot m block offset)) (λ n. store_bytes bytes n block (offset + 1))

-- a chunk stands at multiples of its size
abbrev pub is_aligned : Chunk → ℕ → Bool
is_aligned c offset = offset % chunk_size c == 0

-- the memory with a value laid down at a chunk, where that is allowed
abbrev pub store : Chunk → Mem → ℕ → ℕ → Value → Option Mem
store c m block offset v = if is_aligned c offset then store_bytes (encoding c v) m block offset else None

abbrev pub has_perm : Option Slot → Bool
has_perm None = false
has_perm (Some s) = is_some s.perm

-- there is some permission
abbrev pub is_valid : Mem → ℕ → ℕ → Bool
is_valid m block offset = has_perm (slot m block offset)

abbrev pub is_valid_below : Mem → ℕ → ℕ → Bool
is_valid_below m block zero = false
is_valid_below m block (suc offset) = is_valid m block offset

-- or there is at the byte below
abbrev pub is_weakly_valid : Mem → ℕ → ℕ → Bool
is_weakly_valid m block offset = is_valid m block offset || is_valid_below m block offset

-- the numbers that a value of the machine has
abbrev pub IsValue : Value → Type 0
IsValue Vundef = Unit {0}
IsValue (Vint n) = n < 2 ^ 32
IsValue (Vlong n) = n < 2 ^ 64
IsValue (Vptr block offset) = offset < 2 ^ 64

-- undefined, a number from 0 to 255, or one of the eight fragments of a value
abbrev pub IsByte : MemByte → Type 0
IsByte Undef = Unit {0}
IsByte (Byte n) = n < 256
IsByte (Fragment v i) = IsValue v × (i < 8)

abbrev pub AreBytes : List Slot → Type 0
AreBytes [] = Unit {0}
AreBytes (s ∷ ss) = IsByte s.byte × AreBytes ss

-- what a memory is: its bytes are such
abbrev pub IsMemory : Mem → Type 0
IsMemory [] = Unit {0}
IsMemory (b ∷ bs) = AreBytes b.slots × IsMemory bs
