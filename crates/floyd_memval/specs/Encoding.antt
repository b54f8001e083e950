-- The bytes that a value is laid down as, the lowest place first (CompCert's `encode_val`).
use Rattle.std.specs.Prelude.{ℕ, zero, suc, ◌/◌, ◌%◌, List, [], ◌∷◌, replicate, if◌then◌else◌}
use Rattle.floyd_int.specs.declared.kinds.Value.{Value}
use Rattle.floyd_int.specs.declared.kinds.Value.TheVariants.{Vundef, Vint, Vlong, Vptr}
use Rattle.floyd_memval.specs.declared.bytes.MemByte.{MemByte}
use Rattle.floyd_memval.specs.declared.bytes.MemByte.TheVariants.{Undef, Byte, Fragment}
use Rattle.floyd_memval.specs.declared.bytes.Chunk.{Chunk}
use Rattle.floyd_memval.specs.Chunks.{chunk_size, is_narrow}

-- the n lowest bytes of a number, little-endian: the lowest place has the least significant byte
abbrev pub number_bytes : ℕ → ℕ → List MemByte
number_bytes zero x = []
number_bytes (suc n) x = Byte (x % 256) ∷ number_bytes n (x / 256)

-- n fragments of a value, numbered from n - 1 at the lowest place down to 0
abbrev pub fragments : ℕ → Value → List MemByte
fragments zero v = []
fragments (suc n) v = Fragment v n ∷ fragments n v

-- what a value that does not fit the chunk is laid down as
abbrev pub undefined_bytes : Chunk → List MemByte
undefined_bytes c = replicate (chunk_size c) Undef

-- the bytes of a value at a chunk
unfoldable pub encoding : Chunk → Value → List MemByte
encoding c Vundef = undefined_bytes c
encoding c (Vint x) = if is_narrow c then number_bytes (chunk_size c) x else undefined_bytes c
encoding c (Vlong x) = if is_narrow c then undefined_bytes c else number_bytes 8 x
encoding c (Vptr block offset) = if is_narrow c then undefined_bytes c else fragments 8 (Vptr block offset)
