-- Parts of memory: what a heaplet has where an object of a type has a value.
use Rattle.std.specs.Prelude.{◌≡◌, ◌⊎◌, ℕ, zero, suc, ◌+◌, ◌<◌, ◌==◌, ◌&&◌, ◌||◌, not, nat_le, nat_lt, Bool, true, false, IsTrue, ℤ, pos, negsuc, List, [], ◌∷◌, length, Option, None, Some, IsSomeAnd}
use Rattle.floyd_int.specs.declared.kinds.Value.{Value}
use Rattle.floyd_int.specs.declared.kinds.Value.TheVariants.{Vundef, Vint, Vlong, Vptr}
use Rattle.floyd_memval.specs.declared.bytes.MemByte.{MemByte}
use Rattle.floyd_memval.specs.Chunks.{chunk_size}
use Rattle.floyd_memval.specs.Decoding.{decoding}
use Rattle.floyd_ctypes.specs.Structs.{Structs}
use Rattle.floyd_clight_heap.specs.Heaplet.{Cell, Heaplet, Joins, Within, empty, spread}
use Rattle.floyd_tree_values.specs.Data.{Datum, Val, Seq, Pair, listed}
use Rattle.floyd_tree_values.specs.Defaults.{undefined}
use Rattle.floyd_assert_cells.specs.Scalars.{Scalar, chunk, holds}
use Rattle.floyd_assert_cells.specs.Types.{Sized, Step, compatible, offset_at, type_at}
use Rattle.floyd_assert_cells.specs.Forms.{Form, Single, Array, Struct, Fields, EndAt, FieldAt, end_of, form_of, form_size}

-- at one place: a cell with that share less 1 where there is one, and else none
abbrev pub IsCell : ℕ → Bool → Option Cell → Type 0
IsCell less true None = ⊥
IsCell less true (Some c) = c.less ≡ less
IsCell less false k = k ≡ None

-- h has exactly the places of a block at the offsets of which the test is true, with any bytes
pub record HasExactly (less block : ℕ) (test : ℕ → Bool) (h : Heaplet) : Type 0 where
  pub at : (b o : ℕ) → IsCell less (b == block && test o) (h b o)

-- n places from an offset on
abbrev pub within : ℕ → ℕ → ℕ → Bool
within from n o = nat_le from o && nat_lt o (from + n)

-- whether one of the fields of a struct at an offset has the place
abbrev pub in_fields : ℕ → Fields → ℕ → Bool
in_fields from (EndAt size) o = false
in_fields from (FieldAt name offset f rest) o = within (from + offset) (form_size f) o || in_fields from rest o

-- the bytes of a struct that are in none of its fields
abbrev pub is_padding : ℕ → Fields → ℕ → Bool
is_padding from fields o = within from (end_of fields) o && not (in_fields from fields o)

-- undefined, or a value of the type to which the bytes decode
abbrev pub IsRead : Scalar → Value → List MemByte → Type 0
IsRead s v bytes = (v ≡ Vundef) ⊎ (IsTrue (holds s v) × (decoding (chunk s) bytes ≡ v))

-- h has exactly the bytes of a scalar
pub record ScalarCells (less block : ℕ) (s : Scalar) (v : Value) (offset : ℕ) (h : Heaplet) : Type 0 where
  pub bytes : List MemByte
  pub count : length bytes ≡ chunk_size (chunk s)
  pub exact : h ≡ spread less bytes block offset
  pub reads : IsRead s v bytes

-- h is the sum of heaplets that hold the items at successive places, at steps of a size
abbrev pub ItemsAt : (Datum → ℕ → Heaplet → Type 0) → ℕ → List Datum → ℕ → Heaplet → Type 0
ItemsAt P size [] o h = h ≡ empty
ItemsAt P size (d ∷ ds) o h = (g : Heaplet) × (k : Heaplet) × Joins g k h × P d o g × ItemsAt P size ds (o + size) k

-- the value of the first field, and that of the fields after it: the last field has the whole value
abbrev pub parted : Fields → Datum → Option (Datum × Datum)
parted (EndAt size) v = Some (v, undefined)
parted (FieldAt name offset f rest) (Pair a b) = Some (a, b)
parted (FieldAt name offset f rest) v = None

module _ (less block : ℕ) where
  abbrev mutual
    -- h holds an object of that form with the value v at an offset of the block, each place with that share less 1
    pub FormCells : Form → Datum → ℕ → Heaplet → Type 0
    FormCells (Single s) (Val v) o h = ScalarCells less block s v o h
    FormCells (Single s) v o h = ⊥
    FormCells (Array f n) (Seq items) o h = (length (listed items) ≡ n) × ItemsAt (FormCells f) (form_size f) (listed items) o h
    FormCells (Array f n) v o h = ⊥
    FormCells (Struct fields) v o h =
        (g : Heaplet) × (k : Heaplet) × Joins g k h × FieldCells fields v o g × HasExactly less block (is_padding o fields) k

    -- h is the sum of the heaplets of the fields
    pub FieldCells : Fields → Datum → ℕ → Heaplet → Type 0
    FieldCells (EndAt size) v o h = h ≡ empty
    FieldCells (FieldAt name offset f rest) v o h =
        IsSomeAnd (parted rest v) (λ p. (g : Heaplet) × (k : Heaplet) × Joins g k h × FormCells f p.0 (o + offset) g × FieldCells rest p.1 o k)

-- a share is a whole number from 1 to 16
abbrev pub WithShare : ℤ → (ℕ → Type 0) → Type 0
WithShare (pos zero) P = ⊥
WithShare (pos (suc less)) P = (less < 16) × P less
WithShare (negsuc n) P = ⊥

-- h holds an object of that type with the value v at a place, with that share
abbrev pub Cells : Structs → ℤ → Sized → Datum → ℕ → ℕ → Heaplet → Type 0
Cells structs share t v block offset h = WithShare share (λ less. IsSomeAnd (form_of structs t) (λ f. FormCells less block f v offset h))

-- h has exactly the padding bytes of the struct
abbrev pub FormPadding : Form → ℕ → ℕ → ℕ → Heaplet → Type 0
FormPadding (Single s) less block offset h = ⊥
FormPadding (Array f n) less block offset h = ⊥
FormPadding (Struct fields) less block offset h = HasExactly less block (is_padding offset fields) h

abbrev pub Padding : Structs → ℤ → Sized → ℕ → ℕ → Heaplet → Type 0
Padding structs share t block offset h = WithShare share (λ less. IsSomeAnd (form_of structs t) (λ f. FormPadding f less block offset h))

-- the place at a path of an object of a type to which r points
pub record Located (structs : Structs) (t : Sized) (path : List Step) (r : Value) : Type 0 where
  pub block : ℕ
  pub offset : ℕ
  pub points : r ≡ Vptr block offset
  pub fits : IsTrue (compatible structs t path r)
  pub type : Sized
  pub nested : type_at structs t path ≡ Some type
  pub shift : ℕ
  pub shifted : offset_at structs t path ≡ Some (pos shift)

-- field_at(share, t, path, v, r), data_at(share, t, v, r) and padding(share, t, path, r) hold of h
abbrev pub FieldPart : Structs → ℤ → Sized → List Step → Datum → Value → Heaplet → Type 0
FieldPart structs share t path v r h = (l : Located structs t path r) × Cells structs share l.type v l.block (l.offset + l.shift) h

abbrev pub DataPart : Structs → ℤ → Sized → Datum → Value → Heaplet → Type 0
DataPart structs share t v r h = FieldPart structs share t [] v r h

abbrev pub PaddingPart : Structs → ℤ → Sized → List Step → Value → Heaplet → Type 0
PaddingPart structs share t path r h = (l : Located structs t path r) × Padding structs share l.type l.block (l.offset + l.shift) h

-- v is null, or the start of a function, or h has its byte with any share
abbrev pub ValidPart : (ℕ → Type 0) → Value → Heaplet → Type 0
ValidPart is_function Vundef h = ⊥
ValidPart is_function (Vint n) h = ⊥
ValidPart is_function (Vlong n) h = n ≡ 0
ValidPart is_function (Vptr block offset) h = (is_function block × (offset ≡ 0)) ⊎ Within h block offset
