-- Types of C whose array sizes are whole numbers: their layout, and the type and the offset at a path of fields and
-- numbers.
use Rattle.std.specs.Prelude.{ℕ, ◌^◌, ◌%◌, ◌==◌, ◌&&◌, Bool, true, false, ℤ, pos, negsuc, ◌+ℤ◌, ◌*ℤ◌, int_lt, int_le, List, [], ◌∷◌, ◌++◌, Option, None, Some, is_some, option_map, option_and_then, if◌then◌else◌}
use Rattle.std.specs.Option.{option_map_or}
use Rattle.floyd_int.specs.declared.kinds.Value.{Value}
use Rattle.floyd_int.specs.declared.kinds.Value.TheVariants.{Vptr}
use Rattle.floyd_ctypes.specs.declared.ctype.CType.{CType, Row_of-CType, more_of-CType, end_of-CType}
use Rattle.floyd_ctypes.specs.declared.ctype.CType as c
use Rattle.floyd_ctypes.specs.Layout.{layout, kind_size, offset}
pub use Rattle.floyd_ctypes.specs.Path.{Step, Dot, At}
use Rattle.floyd_ctypes.specs.Structs.{Structs, field_of}
use Rattle.floyd_tree_sorts.specs.declared.shape.Shape.{Shape, Void, Int, Pointer', Array', Struct, Function', Row_of-Shape, more_of-Shape, end_of-Shape}

-- a shape, and the sizes of its arrays in the order in which the type is written, the outermost first
pub record Sized : Type 0 where
  pub shape : Shape
  pub sizes : List ℤ

-- the shape of a type of C, and the sizes of its arrays
abbrev mutual
  pub shape_of : CType → Shape
  shape_of c.Void = Void
  shape_of (c.Int kind) = Int kind
  shape_of (c.Pointer' p (more_of-CType t end_of-CType)) = Pointer' tt (more_of-Shape (shape_of t) end_of-Shape)
  shape_of (c.Array' p (more_of-CType t end_of-CType) n) = Array' tt (more_of-Shape (shape_of t) end_of-Shape)
  shape_of (c.Struct tag) = Struct tag
  shape_of (c.Function' shape ps p (more_of-CType r end_of-CType)) = Function' shape (shapes_of ps) tt (more_of-Shape (shape_of r) end_of-Shape)

  pub shapes_of : {n : _} → Row_of-CType n → Row_of-Shape n
  shapes_of end_of-CType = end_of-Shape
  shapes_of (more_of-CType t rest) = more_of-Shape (shape_of t) (shapes_of rest)

abbrev mutual
  pub sizes_of : CType → List ℤ
  sizes_of c.Void = []
  sizes_of (c.Int kind) = []
  sizes_of (c.Pointer' p (more_of-CType t end_of-CType)) = sizes_of t
  sizes_of (c.Array' p (more_of-CType t end_of-CType) n) = pos n ∷ sizes_of t
  sizes_of (c.Struct tag) = []
  sizes_of (c.Function' shape ps p (more_of-CType r end_of-CType)) = all_sizes_of ps ++ sizes_of r

  pub all_sizes_of : {n : _} → Row_of-CType n → List ℤ
  all_sizes_of end_of-CType = []
  all_sizes_of (more_of-CType t rest) = sizes_of t ++ all_sizes_of rest

abbrev pub sized : CType → Sized
sized t = record { shape = shape_of t; sizes = sizes_of t }

module _ (structs : Structs) where
  -- the size in bytes; void, functions and incomplete structs have none, and a negative array size counts as such
  abbrev pub size_by : Shape → List ℤ → Option ℤ
  size_by Void sizes = None
  size_by (Int k) sizes = Some (pos (kind_size k))
  size_by (Pointer' p to) sizes = Some (pos 8)
  size_by (Array' p (more_of-Shape t end_of-Shape)) [] = None
  size_by (Array' p (more_of-Shape t end_of-Shape)) (n ∷ sizes) = option_map (λ bytes. bytes *ℤ n) (size_by t sizes)
  size_by (Struct tag) sizes = option_map (λ l. pos l.size) (layout structs (c.Struct tag))
  size_by (Function' shape ps p r) sizes = None

  abbrev pub size : Sized → Option ℤ
  size t = size_by t.shape t.sizes

  abbrev pub align_by : Shape → Option ℕ
  align_by Void = None
  align_by (Int k) = Some (kind_size k)
  align_by (Pointer' p to) = Some 8
  align_by (Array' p (more_of-Shape t end_of-Shape)) = align_by t
  align_by (Struct tag) = option_map (λ l. l.align) (layout structs (c.Struct tag))
  align_by (Function' shape ps p r) = None

  abbrev pub align : Sized → Option ℕ
  align t = align_by t.shape

-- no array has a negative size, also behind a pointer
abbrev pub none_negative : List ℤ → Bool
none_negative [] = true
none_negative (pos n ∷ sizes) = none_negative sizes
none_negative (negsuc n ∷ sizes) = false

-- the type of an array's elements
abbrev pub item_type : Shape → List ℤ → Option Sized
item_type (Array' p (more_of-Shape t end_of-Shape)) [] = None
item_type (Array' p (more_of-Shape t end_of-Shape)) (n ∷ sizes) = Some (record { shape = t; sizes = sizes })
item_type t sizes = None

-- whether a subscript is at least 0 and below the size of the array
abbrev pub is_below : List ℤ → ℤ → Bool
is_below [] place = false
is_below (n ∷ sizes) place = int_le (pos 0) place && int_lt place n

abbrev pub in_range : Sized → Step → Bool
in_range t (Dot name) = true
in_range t (At place) = is_below t.sizes place

module _ (structs : Structs) where
  -- the type after a step; a subscript may lie outside its array
  abbrev pub after_dot : Shape → List ℕ → Option Sized
  after_dot (Struct tag) name = option_map (λ f. sized f.ty) (field_of structs tag name)
  after_dot t name = None

  abbrev pub type_after : Sized → Step → Option Sized
  type_after t (Dot name) = after_dot t.shape name
  type_after t (At place) = item_type t.shape t.sizes

  -- how far a step leads, in bytes
  abbrev pub dot_offset : Shape → List ℕ → Option ℤ
  dot_offset (Struct tag) name = option_map pos (offset structs tag name)
  dot_offset t name = None

  abbrev pub step_offset : Sized → Step → Option ℤ
  step_offset t (Dot name) = dot_offset t.shape name
  step_offset t (At place) = option_and_then (λ u. option_map (λ bytes. bytes *ℤ place) (size structs u)) (item_type t.shape t.sizes)

  -- the type at a path; there is none where the type has no size
  abbrev pub type_at : Sized → List Step → Option Sized
  type_at t [] = if is_some (size structs t) then Some t else None
  type_at t (s ∷ path) = option_and_then (λ u. type_at u path) (type_after t s)

  -- the offset at a path, where it has a type
  abbrev pub offset_at : Sized → List Step → Option ℤ
  offset_at t [] = if is_some (size structs t) then Some (pos 0) else None
  offset_at t (s ∷ path) =
      option_and_then (λ o. option_and_then (λ u. option_map (λ rest. o +ℤ rest) (offset_at u path)) (type_after t s)) (step_offset t s)

  -- whether the path has a type, and each subscript lies in its array
  abbrev pub is_legal : Sized → List Step → Bool
  is_legal t [] = is_some (size structs t)
  is_legal t (s ∷ path) = in_range t s && option_map_or (λ u. is_legal u path) (type_after t s) false

  abbrev pub is_aligned_for : Sized → ℕ → Bool
  is_aligned_for t offset = option_map_or (λ a. offset % a == 0) (align structs t) false

  -- the object ends below 2 ^ 64
  abbrev pub has_room : Sized → ℕ → Bool
  has_room t offset = option_map_or (λ n. int_lt (pos offset +ℤ n) (pos (2 ^ 64))) (size structs t) false

  -- a pointer, aligned for the type, with offset plus size below 2 ^ 64, array sizes that are not negative, and a path
  -- that is legal
  abbrev pub compatible : Sized → List Step → Value → Bool
  compatible t path (Vptr block offset) = is_aligned_for t offset && has_room t offset && none_negative t.sizes && is_legal t path
  compatible t path v = false
