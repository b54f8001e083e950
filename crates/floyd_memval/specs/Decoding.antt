-- The value that bytes are read back as, the lowest place first (CompCert's `decode_val`).
use Rattle.std.specs.Prelude.{ℕ, zero, suc, ◌+◌, ◌*◌, ◌==◌, ◌&&◌, Bool, true, false, List, [], ◌∷◌, Option, None, Some, option_map, if◌then◌else◌}
use Rattle.floyd_int.specs.declared.kinds.IntKind.TheVariants.{I8 as KindI8, U8 as KindU8, I16 as KindI16, U16 as KindU16, I32 as KindI32}
use Rattle.floyd_int.specs.declared.kinds.Value.{Value}
use Rattle.floyd_int.specs.declared.kinds.Value.TheVariants.{Vundef, Vint, Vlong, Vptr}
use Rattle.floyd_int.specs.Kind.{cast_of}
use Rattle.floyd_memval.specs.declared.bytes.MemByte.{MemByte}
use Rattle.floyd_memval.specs.declared.bytes.MemByte.TheVariants.{Undef, Byte, Fragment}
use Rattle.floyd_memval.specs.declared.bytes.Chunk.{Chunk}
use Rattle.floyd_memval.specs.declared.bytes.Chunk.TheVariants.{I8, U8, I16, U16, I32, I64, Ptr}
use Rattle.floyd_memval.specs.Chunks.{is_narrow}

-- the number whose bytes these are, the least significant one first, where all of them are numbers
abbrev pub number_in : List MemByte → Option ℕ
number_in [] = Some 0
number_in (Undef ∷ bytes) = None
number_in (Byte b ∷ bytes) = option_map (λ n. b + 256 * n) (number_in bytes)
number_in (Fragment v i ∷ bytes) = None

-- the value of a number at a chunk: of up to 32 bits it has the 32 bits of the signed or unsigned reading
abbrev pub number_value : Chunk → ℕ → Value
number_value I8 x = Vint (cast_of KindI8 KindI32 x)
number_value U8 x = Vint (cast_of KindU8 KindI32 x)
number_value I16 x = Vint (cast_of KindI16 KindI32 x)
number_value U16 x = Vint (cast_of KindU16 KindI32 x)
number_value I32 x = Vint x
number_value I64 x = Vlong x
number_value Ptr x = Vlong x

-- whether the byte is the fragment of that number of a pointer
abbrev pub is_fragment : ℕ → ℕ → ℕ → MemByte → Bool
is_fragment n block offset (Fragment (Vptr b o) i) = block == b && offset == o && i == n
is_fragment n block offset byte = false

-- whether the bytes are n fragments of a pointer, numbered from n - 1 at the lowest place down to 0
abbrev pub are_fragments : ℕ → ℕ → ℕ → List MemByte → Bool
are_fragments zero block offset [] = true
are_fragments (suc n) block offset (byte ∷ bytes) = is_fragment n block offset byte && are_fragments n block offset bytes
are_fragments n block offset bytes = false

-- the pointer whose eight fragments these are
abbrev pub pointer_in : List MemByte → Value
pointer_in (Fragment (Vptr b o) i ∷ bytes) = if are_fragments 8 b o (Fragment (Vptr b o) i ∷ bytes) then Vptr b o else Vundef
pointer_in bytes = Vundef

-- the value of bytes at a chunk, given the number in them
abbrev pub value_from : Chunk → List MemByte → Option ℕ → Value
value_from c bytes (Some x) = number_value c x
value_from c bytes None = if is_narrow c then Vundef else pointer_in bytes

-- the value of bytes at a chunk
unfoldable pub decoding : Chunk → List MemByte → Value
decoding c bytes = value_from c bytes (number_in bytes)
