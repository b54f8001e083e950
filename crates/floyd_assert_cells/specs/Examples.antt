-- Worked examples: `struct pair { char c; int n; }` in a memory with one block of 8 bytes.
use Rattle.std.specs.Prelude.{◌≡◌, ℕ, true, false, ℤ, pos, negsuc, List, [], ◌∷◌, map, None, Some}
use Rattle.floyd_int.specs.declared.kinds.IntKind.TheVariants.{I8 as KindI8, I32 as KindI32}
use Rattle.floyd_int.specs.declared.kinds.Value.TheVariants.{Vint, Vptr}
use Rattle.floyd_ctypes.specs.declared.ctype.CType.{Int}
use Rattle.floyd_ctypes.specs.Structs.{Structs}
use Rattle.floyd_memval.specs.declared.bytes.Chunk.TheVariants.{I8, I32}
use Rattle.floyd_memval.specs.declared.bytes.MemByte.{MemByte}
use Rattle.floyd_memval.specs.declared.bytes.MemByte.TheVariants.{Undef, Byte}
use Rattle.floyd_clight_memory.specs.Memory.{Global, Mem, Perm, Readable, Writable, store}
use Rattle.floyd_clight_memory.specs.Loads.{in_memory, load_by}
use Rattle.floyd_clight_heap.specs.Heaplet.{Fits, Heaplet}
use Rattle.floyd_tree_sorts.specs.declared.shape.Shape.{Int as IntShape, Pointer', more_of-Shape, end_of-Shape}
use Rattle.floyd_tree_values.specs.Data.{Pair, Val}
use Rattle.floyd_assert_cells.specs.Scalars.{Integer}
use Rattle.floyd_assert_cells.specs.Types.{At, Dot, Sized, align, compatible, is_legal, offset_at, size, type_at}
use Rattle.floyd_assert_cells.specs.Forms.{EndAt, FieldAt, Single, Struct as StructForm, form_of}
use Rattle.floyd_assert_cells.specs.Cells.{Cells, is_padding}
use Rattle.floyd_assert_cells.specs.Laws.{array_of, struct_of}

-- the names `pair`, `c` and `n`, as their bytes
abbrev pub tag : List ℕ
tag = 112 ∷ 97 ∷ 105 ∷ 114 ∷ []

abbrev pub c : List ℕ
c = 99 ∷ []

abbrev pub n : List ℕ
n = 110 ∷ []

abbrev pub structs : Structs
structs = (tag, Some (record { name = c; ty = Int KindI8 } ∷ record { name = n; ty = Int KindI32 } ∷ [])) ∷ []

abbrev pub pair : Sized
pair = struct_of tag

abbrev pub int : Sized
int = record { shape = IntShape KindI32; sizes = [] }

abbrev pub pointer_to : Sized → Sized
pointer_to t = record { shape = Pointer' tt (more_of-Shape t.shape end_of-Shape); sizes = t.sizes }

-- The struct has 8 bytes, of which three between its fields are padding.
pub record Layouts : Type 0 where
  pub form : form_of structs pair ≡ Some (StructForm (FieldAt c 0 (Single (Integer KindI8)) (FieldAt n 4 (Single (Integer KindI32)) (EndAt 8))))
  pub size : size structs pair ≡ Some (pos 8)
  pub align : align structs pair ≡ Some 4
  pub type : type_at structs pair (Dot n ∷ []) ≡ Some int
  pub offset : offset_at structs pair (Dot n ∷ []) ≡ Some (pos 4)
  pub padding : map (is_padding 0 (FieldAt c 0 (Single (Integer KindI8)) (FieldAt n 4 (Single (Integer KindI32)) (EndAt 8)))) (0 ∷ 1 ∷ 2 ∷ 3 ∷ 4 ∷ 7 ∷ 8 ∷ [])
      ≡ false ∷ true ∷ true ∷ true ∷ false ∷ false ∷ false ∷ []

-- Of an array of two such structs, the second one's number stands at 12. There is no third one, though it has an offset.
pub record Paths : Type 0 where
  pub second : offset_at structs (array_of (pos 2) pair) (At (pos 1) ∷ Dot n ∷ []) ≡ Some (pos 12)
  pub third : offset_at structs (array_of (pos 2) pair) (At (pos 2) ∷ Dot n ∷ []) ≡ Some (pos 20)
  pub before : offset_at structs (array_of (pos 2) pair) (At (negsuc 0) ∷ Dot n ∷ []) ≡ Some (negsuc 3)
  pub legal : is_legal structs (array_of (pos 2) pair) (At (pos 1) ∷ Dot n ∷ []) ≡ true
  pub beyond : is_legal structs (array_of (pos 2) pair) (At (pos 2) ∷ Dot n ∷ []) ≡ false

-- An object stands at a multiple of its alignment, below 2 ^ 64, and no array has a negative size, also behind a pointer.
pub record Fitting : Type 0 where
  pub fits : compatible structs pair [] (Vptr 0 8) ≡ true
  pub odd : compatible structs pair [] (Vptr 0 6) ≡ false
  pub high : compatible structs pair [] (Vptr 0 18446744073709551608) ≡ false
  pub below : compatible structs pair [] (Vptr 0 18446744073709551600) ≡ true
  pub negative : compatible structs (array_of (negsuc 0) int) [] (Vptr 0 8) ≡ false
  pub behind : compatible structs (pointer_to (array_of (negsuc 0) int)) [] (Vptr 0 8) ≡ false
  pub size : size structs (array_of (negsuc 0) int) ≡ Some (negsuc 3)

-- a memory with the bytes of the struct in one block, each with that permission
abbrev pub with_bytes : Perm → List MemByte → Mem
with_bytes p bytes = record { kind = Global; slots = map (λ b. record { byte = b; perm = Some p }) bytes } ∷ []

abbrev pub before_store : List MemByte
before_store = Byte 5 ∷ Undef ∷ Undef ∷ Undef ∷ Byte 7 ∷ Byte 0 ∷ Byte 0 ∷ Byte 0 ∷ []

abbrev pub after_store : List MemByte
after_store = Byte 5 ∷ Undef ∷ Undef ∷ Undef ∷ Byte 254 ∷ Byte 255 ∷ Byte 255 ∷ Byte 255 ∷ []

-- The number is 7, and becomes -2 where it may be written.
pub record Stores : Type 0 where
  pub char : load_by (in_memory (with_bytes Readable before_store)) I8 0 0 ≡ Some (Vint 5)
  pub number : load_by (in_memory (with_bytes Readable before_store)) I32 0 4 ≡ Some (Vint 7)
  pub stored : store I32 (with_bytes Writable before_store) 0 4 (Vint 4294967294) ≡ Some (with_bytes Writable after_store)
  pub now : load_by (in_memory (with_bytes Writable after_store)) I32 0 4 ≡ Some (Vint 4294967294)
  pub refused : store I32 (with_bytes Readable before_store) 0 4 (Vint 4294967294) ≡ None
  pub unaligned : store I32 (with_bytes Writable before_store) 0 2 (Vint 4294967294) ≡ None

-- a heaplet that fits a memory and holds the struct with these values and that share
pub record Holding (m : Mem) (share : ℤ) (first second : ℕ) : Type 0 where
  pub heap : Heaplet
  pub fits : Fits heap m
  pub holds : Cells structs share pair (Pair (Val (Vint first)) (Val (Vint second))) 0 0 heap

-- Some heaplet holds the struct before and after the store, with all of it where it may be written, and with half of it
-- where it may be read.
pub record Heaps : Type 0 where
  pub whole : Holding (with_bytes Writable before_store) (pos 16) 5 7
  pub stored : Holding (with_bytes Writable after_store) (pos 16) 5 4294967294
  pub half : Holding (with_bytes Readable before_store) (pos 8) 5 7
