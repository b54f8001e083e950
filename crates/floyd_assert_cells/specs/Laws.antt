-- What holds of layouts, and of parts of memory.
use Rattle.std.specs.Prelude.{◌≡◌, ◌≢◌, ◌⊎◌, ℕ, suc, ◌+◌, ◌*◌, ◌≤◌, ◌<◌, true, IsTrue, ℤ, pos, List, [], ◌∷◌, ◌++◌, length, take, drop, Option, None, Some, IsSomeAnd, option_map}
use Rattle.floyd_int.specs.declared.kinds.Value.{Value}
use Rattle.floyd_int.specs.declared.kinds.Value.TheVariants.{Vundef, Vptr}
use Rattle.floyd_ctypes.specs.declared.ctype.CType.{CType}
use Rattle.floyd_ctypes.specs.declared.field.Field.{Field}
use Rattle.floyd_ctypes.specs.declared.layout.Layout.{Layout}
use Rattle.floyd_ctypes.specs.Has.{has}
use Rattle.floyd_ctypes.specs.Layout.{after, layout, nothing_laid, offset_after}
use Rattle.floyd_ctypes.specs.Layout as c
use Rattle.floyd_ctypes.specs.Structs.{Structs, fields_of}
use Rattle.floyd_memval.specs.declared.bytes.MemByte.{MemByte}
use Rattle.floyd_memval.specs.Chunks.{chunk_of}
use Rattle.floyd_clight_memory.specs.Memory.{Mem, is_aligned, store}
use Rattle.floyd_clight_heap.specs.Heaplet.{Fits, Heaplet, Joins, empty}
use Rattle.floyd_clight_heap.specs.Loads.{Shows}
use Rattle.floyd_clight_memory.specs.Loads.{load_by}
use Rattle.floyd_tree_sorts.specs.declared.shape.Shape.{Array', Struct, more_of-Shape, end_of-Shape}
use Rattle.floyd_tree_values.specs.Data.{Datum, Val, Pair, items_in, seq}
use Rattle.floyd_tree_values.specs.Defaults.{default_value, undefined}
use Rattle.floyd_assert_cells.specs.Scalars.{Scalar, chunk, holds, scalar_of, shape_scalar}
use Rattle.floyd_assert_cells.specs.Types.{Sized, Step, align, compatible, is_legal, offset_at, shape_of, size, sized, type_at}
use Rattle.floyd_assert_cells.specs.Forms.{Form, form_of}
use Rattle.floyd_assert_cells.specs.Cells.{Cells, HasExactly, Padding, within}
use Rattle.floyd_assert_cells.specs.Items.{item_at, with_at}
use Rattle.floyd_assert_cells.specs.Focus.{Focus}

-- ---- layouts

-- the chunk and the values of a scalar type are those of its scalar, which its shape shows too
pub record ScalarIs (t : CType) : Type 0 where
  pub chunk : chunk_of t ≡ option_map chunk (scalar_of t)
  pub shape : shape_scalar (shape_of t) ≡ scalar_of t
  pub values : (s : Scalar) (v : Value) → scalar_of t ≡ Some s → has t v ≡ holds s v

abbrev pub ScalarsAgree : Type 0
ScalarsAgree = (t : CType) → ScalarIs t

-- a type of C has the size and the alignment that it has as a shape with sizes
abbrev pub LayoutsAgree : Type 0
LayoutsAgree = (structs : Structs) (t : CType) → (size structs (sized t) ≡ option_map pos (c.size structs t)) × (align structs (sized t) ≡ c.align structs t)

-- where an object may stand, what is at a path of it stands at a multiple of its own alignment
abbrev pub PathsAreAligned : Type 0
PathsAreAligned =
    (structs : Structs) (t u : Sized) (path : List Step) (block offset shift : ℕ) (s : Scalar) →
    compatible structs t path (Vptr block offset) ≡ true → type_at structs t path ≡ Some u → offset_at structs t path ≡ Some (pos shift) → shape_scalar u.shape ≡ Some s →
    is_aligned (chunk s) (offset + shift) ≡ true

-- ---- scalars

-- whatever shows the bytes, a scalar's value is loaded, if it is not undefined
abbrev pub ScalarsAreLoaded : Type 0
ScalarsAreLoaded =
    (structs : Structs) (byte_at : ℕ → ℕ → Option MemByte) (share : ℤ) (t : Sized) (s : Scalar) (v : Value) (block offset : ℕ) (h : Heaplet) →
    Shows byte_at h → shape_scalar t.shape ≡ Some s → Cells structs share t (Val v) block offset h → v ≢ Vundef → is_aligned (chunk s) offset ≡ true →
    load_by byte_at (chunk s) block offset ≡ Some v

-- a value is stored beside a frame, and stands there
pub record Stored (structs : Structs) (t : Sized) (s : Scalar) (w : Value) (F : Heaplet) (m : Mem) (block offset : ℕ) : Type 0 where
  pub mem : Mem
  pub is : store (chunk s) m block offset w ≡ Some mem
  pub here : Heaplet
  pub sum : Heaplet
  pub joins : Joins here F sum
  pub fits : Fits sum mem
  pub holds : Cells structs (pos 16) t (Val w) block offset here

-- a value that a scalar type holds may be stored over another one with the share 16
abbrev pub ScalarsAreStored : Type 0
ScalarsAreStored =
    (structs : Structs) (t : Sized) (s : Scalar) (v w : Value) (block offset : ℕ) (h F k : Heaplet) (m : Mem) →
    Joins h F k → Fits k m → shape_scalar t.shape ≡ Some s → Cells structs (pos 16) t (Val v) block offset h → IsTrue (holds s w) → is_aligned (chunk s) offset ≡ true →
    Stored structs t s w F m block offset

abbrev pub ScalarsAreHeld : Type 0
ScalarsAreHeld =
    (structs : Structs) (share : ℤ) (t : Sized) (s : Scalar) (v : Datum) (block offset : ℕ) (h : Heaplet) →
    shape_scalar t.shape ≡ Some s → Cells structs share t v block offset h → (w : Value) × (v ≡ Val w) × ((w ≡ Vundef) ⊎ IsTrue (holds s w))

-- ---- whole objects

-- h has exactly the bytes of the type's size, each with that share
pub record IsExact (structs : Structs) (share : ℤ) (t : Sized) (block offset : ℕ) (h : Heaplet) : Type 0 where
  pub less : ℕ
  pub is : share ≡ pos (suc less)
  pub small : less < 16
  pub count : ℕ
  pub size : size structs t ≡ Some (pos count)
  pub exact : HasExactly less block (within offset count) h

abbrev pub CellsAreExact : Type 0
CellsAreExact = (structs : Structs) (share : ℤ) (t : Sized) (v : Datum) (block offset : ℕ) (h : Heaplet) → Cells structs share t v block offset h → IsExact structs share t block offset h

-- what holds an object with a value holds it with the default value
abbrev pub CellsHaveDefaults : Type 0
CellsHaveDefaults =
    (structs : Structs) (share : ℤ) (t : Sized) (v : Datum) (block offset : ℕ) (h : Heaplet) →
    Cells structs share t v block offset h → Cells structs share t (default_value structs t.shape t.sizes) block offset h

-- ---- arrays

abbrev pub array_of : ℤ → Sized → Sized
array_of n t = record { shape = Array' tt (more_of-Shape t.shape end_of-Shape); sizes = n ∷ t.sizes }

-- the value of an array is a list of so many items
abbrev pub ArraysHaveItems : Type 0
ArraysHaveItems =
    (structs : Structs) (share n : ℤ) (t : Sized) (v : Datum) (block offset : ℕ) (h : Heaplet) →
    Cells structs share (array_of n t) v block offset h → (n ≡ pos (length (items_in v))) × (v ≡ seq (items_in v))

-- h is the sum of two heaplets, one of each meaning
abbrev pub Sum : (Heaplet → Type 0) → (Heaplet → Type 0) → Heaplet → Type 0
Sum P Q h = (g : Heaplet) × (k : Heaplet) × Joins g k h × P g × Q k

-- an array is cut behind its first m items
abbrev pub ArraysAreCut : Type 0
ArraysAreCut =
    (structs : Structs) (share : ℤ) (t : Sized) (m n bytes : ℕ) (v : Datum) (block offset : ℕ) (h : Heaplet) →
    size structs t ≡ Some (pos bytes) → Cells structs share (array_of (pos (m + n)) t) v block offset h →
    Sum (Cells structs share (array_of (pos m) t) (seq (take m (items_in v))) block offset)
    (Cells structs share (array_of (pos n) t) (seq (drop m (items_in v))) block (offset + bytes * m)) h

-- and two arrays, one behind the other, are one
abbrev pub ArraysAreJoined : Type 0
ArraysAreJoined =
    (structs : Structs) (share : ℤ) (t : Sized) (m n bytes : ℕ) (v w : Datum) (block offset : ℕ) (h : Heaplet) →
    size structs t ≡ Some (pos bytes) →
    Sum (Cells structs share (array_of (pos m) t) v block offset) (Cells structs share (array_of (pos n) t) w block (offset + bytes * m)) h →
    Cells structs share (array_of (pos (m + n)) t) (seq (items_in v ++ items_in w)) block offset h

-- ---- structs

-- the value of the first field and that of the others: the last field has the whole value
abbrev pub first_of : List Field → Datum → Option (Datum × Datum)
first_of [] v = Some (v, undefined)
first_of (f ∷ fs) (Pair a b) = Some (a, b)
first_of (f ∷ fs) v = None

-- h is the sum of the heaplets of fields behind what is laid, each at its offset
abbrev pub FieldSum : Structs → ℤ → Layout → List Field → Datum → ℕ → ℕ → Heaplet → Type 0
FieldSum structs share laid [] v block offset h = h ≡ empty
FieldSum structs share laid (f ∷ fs) v block offset h =
    IsSomeAnd (layout structs f.ty) (λ l. IsSomeAnd (first_of fs v) (λ p.
    Sum (Cells structs share (sized f.ty) p.0 block (offset + offset_after laid l)) (FieldSum structs share (after laid l) fs p.1 block offset) h))

abbrev pub struct_of : List ℕ → Sized
struct_of tag = record { shape = Struct tag; sizes = [] }

-- a struct is its fields and its padding
abbrev pub StructsAreSplit : Type 0
StructsAreSplit =
    (structs : Structs) (share : ℤ) (tag : List ℕ) (v : Datum) (block offset : ℕ) (h : Heaplet) →
    Cells structs share (struct_of tag) v block offset h →
    (fields : List Field) × (fields_of structs tag ≡ Some fields) × Sum (FieldSum structs share nothing_laid fields v block offset) (Padding structs share (struct_of tag) block offset) h

abbrev pub StructsAreJoined : Type 0
StructsAreJoined =
    (structs : Structs) (share : ℤ) (tag : List ℕ) (fields : List Field) (v : Datum) (block offset : ℕ) (h : Heaplet) →
    fields_of structs tag ≡ Some fields → Sum (FieldSum structs share nothing_laid fields v block offset) (Padding structs share (struct_of tag) block offset) h →
    Cells structs share (struct_of tag) v block offset h

-- ---- shares

-- a share may be split into two, and two shares joined, if they are 16 at most together
abbrev pub SharesAreSplit : Type 0
SharesAreSplit =
    (structs : Structs) (r s : ℕ) (t : Sized) (v : Datum) (block offset : ℕ) (h : Heaplet) →
    1 ≤ r → 1 ≤ s → Cells structs (pos (r + s)) t v block offset h → Sum (Cells structs (pos r) t v block offset) (Cells structs (pos s) t v block offset) h

abbrev pub SharesAreJoined : Type 0
SharesAreJoined =
    (structs : Structs) (r s : ℕ) (t : Sized) (v : Datum) (block offset : ℕ) (h : Heaplet) →
    r + s ≤ 16 → Sum (Cells structs (pos r) t v block offset) (Cells structs (pos s) t v block offset) h → Cells structs (pos (r + s)) t v block offset h

abbrev pub PaddingIsSplit : Type 0
PaddingIsSplit =
    (structs : Structs) (r s : ℕ) (t : Sized) (block offset : ℕ) (h : Heaplet) →
    1 ≤ r → 1 ≤ s → Padding structs (pos (r + s)) t block offset h → Sum (Padding structs (pos r) t block offset) (Padding structs (pos s) t block offset) h

abbrev pub PaddingIsJoined : Type 0
PaddingIsJoined =
    (structs : Structs) (r s : ℕ) (t : Sized) (block offset : ℕ) (h : Heaplet) →
    r + s ≤ 16 → Sum (Padding structs (pos r) t block offset) (Padding structs (pos s) t block offset) h → Padding structs (pos (r + s)) t block offset h

-- ---- paths

-- the item at a path stands at the path's offset, and another item may be put there
pub record FocusAt (structs : Structs) (share : ℤ) (t : Sized) (path : List Step) (f : Form) (v : Datum) (block offset : ℕ) (h : Heaplet) : Type 0 where
  pub type : Sized
  pub nested : type_at structs t path ≡ Some type
  pub shift : ℕ
  pub shifted : offset_at structs t path ≡ Some (pos shift)
  pub focus : Focus (λ e k. Cells structs share type e block (offset + shift) k) (item_at path f v) (λ e k. Cells structs share t (with_at path f v e) block offset k) h

abbrev pub PathsAreFocused : Type 0
PathsAreFocused =
    (structs : Structs) (share : ℤ) (t : Sized) (path : List Step) (f : Form) (v : Datum) (block offset : ℕ) (h : Heaplet) →
    form_of structs t ≡ Some f → is_legal structs t path ≡ true → Cells structs share t v block offset h → FocusAt structs share t path f v block offset h
