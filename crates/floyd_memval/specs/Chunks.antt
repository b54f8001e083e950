-- Chunks: how many bytes a value takes in memory, and how they are read back.
use Rattle.std.specs.Prelude.{ℕ, Bool, true, false, Option, None, Some}
use Rattle.floyd_int.specs.declared.kinds.IntKind.{IntKind}
use Rattle.floyd_int.specs.declared.kinds.IntKind.TheVariants.{I8 as KindI8, U8 as KindU8, I16 as KindI16, U16 as KindU16, I32 as KindI32, U32 as KindU32, I64 as KindI64, U64 as KindU64}
use Rattle.floyd_ctypes.specs.declared.ctype.CType.{CType, Int, Pointer'}
use Rattle.floyd_memval.specs.declared.bytes.Chunk.{Chunk}
use Rattle.floyd_memval.specs.declared.bytes.Chunk.TheVariants.{I8, U8, I16, U16, I32, I64, Ptr}

-- how many bytes the chunk has
abbrev pub chunk_size : Chunk → ℕ
chunk_size I8 = 1
chunk_size U8 = 1
chunk_size I16 = 2
chunk_size U16 = 2
chunk_size I32 = 4
chunk_size I64 = 8
chunk_size Ptr = 8

-- at a chunk of up to 32 bits a number is a `Vint`, and at the others a `Vlong`
abbrev pub is_narrow : Chunk → Bool
is_narrow I8 = true
is_narrow U8 = true
is_narrow I16 = true
is_narrow U16 = true
is_narrow I32 = true
is_narrow I64 = false
is_narrow Ptr = false

-- the chunk of the integers of a kind
abbrev pub kind_chunk : IntKind → Chunk
kind_chunk KindI8 = I8
kind_chunk KindU8 = U8
kind_chunk KindI16 = I16
kind_chunk KindU16 = U16
kind_chunk KindI32 = I32
kind_chunk KindU32 = I32
kind_chunk KindI64 = I64
kind_chunk KindU64 = I64

-- the chunk of the values of a scalar type; a type that is not scalar has none
abbrev pub chunk_of : CType → Option Chunk
chunk_of (Int k) = Some (kind_chunk k)
chunk_of (Pointer' p to) = Some Ptr
chunk_of t = None
