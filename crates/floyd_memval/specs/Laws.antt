-- What comes back from bytes.
use Rattle.std.specs.Prelude.{◌≡◌, ◌↔◌, ℕ, ◌/◌, ◌%◌, ◌^◌, ◌<◌, slice_get, List, Some, length, Contains}
use Rattle.std.specs.Bool.{IsFalse}
use Rattle.floyd_int.specs.declared.kinds.Value.{Value}
use Rattle.floyd_int.specs.declared.kinds.Value.TheVariants.{Vundef, Vptr}
use Rattle.floyd_ctypes.specs.declared.ctype.CType.{CType}
use Rattle.floyd_ctypes.specs.Has.{Has}
use Rattle.floyd_ctypes.specs.Layout.{layout, natural}
use Rattle.floyd_ctypes.specs.Structs.{Structs}
use Rattle.floyd_memval.specs.declared.bytes.MemByte.{MemByte}
use Rattle.floyd_memval.specs.declared.bytes.MemByte.TheVariants.{Undef, Byte}
use Rattle.floyd_memval.specs.declared.bytes.Chunk.{Chunk}
use Rattle.floyd_memval.specs.Chunks.{chunk_size, is_narrow, chunk_of}
use Rattle.floyd_memval.specs.Decoding.{decoding, number_in}
use Rattle.floyd_memval.specs.Encoding.{encoding, fragments, number_bytes}

-- a value of a scalar type comes back from its bytes at the type's chunk
abbrev pub ValuesComeBack : Type 0
ValuesComeBack = (t : CType) (c : Chunk) (v : Value) → chunk_of t ≡ Some c → Has t v → decoding c (encoding c v) ≡ v

-- a value has as many bytes as its chunk
abbrev pub EncodingsFillChunks : Type 0
EncodingsFillChunks = (c : Chunk) (v : Value) → length (encoding c v) ≡ chunk_size c

-- numbers are little-endian: at place i stand the bits from 8 i on
abbrev pub NumbersAreLittleEndian : Type 0
NumbersAreLittleEndian = (n x i : ℕ) → i < n → slice_get (number_bytes n x) i ≡ Some (Byte (x / 256 ^ i % 256))

-- n bytes of a number give it back, modulo 2 to the 8 n
abbrev pub NumbersComeBack : Type 0
NumbersComeBack = (n x : ℕ) → number_in (number_bytes n x) ≡ Some (x % 256 ^ n)

-- one undefined byte leaves the whole undefined
abbrev pub UndefinedSpreads : Type 0
UndefinedSpreads = (c : Chunk) (bytes : List MemByte) → Contains bytes Undef → decoding c bytes ≡ Vundef

-- a pointer comes from its eight fragments in order, at a chunk of 64 bits, and from nothing else
abbrev pub PointersAreFragments : Type 0
PointersAreFragments =
    (c : Chunk) (bytes : List MemByte) (block offset : ℕ) →
    (decoding c bytes ≡ Vptr block offset) ↔ (IsFalse (is_narrow c) × (bytes ≡ fragments 8 (Vptr block offset)))

-- a scalar type has the size of its chunk, and is aligned to it
abbrev pub ScalarsFillChunks : Type 0
ScalarsFillChunks = (structs : Structs) (t : CType) (c : Chunk) → chunk_of t ≡ Some c → layout structs t ≡ Some (natural (chunk_size c))
