-- Types of C: what they are made of, and what may be done with them.
use Rattle.std.specs.Prelude.{ℕ, ◌+◌, ◌==◌, max, nat_le, Bool, true, false, ◌&&◌, not, List, Option, Some, None, is_some, if◌then◌else◌, bytes_eq}
use Rattle.floyd_int.specs.declared.kinds.IntKind.{IntKind}
use Rattle.floyd_int.specs.declared.kinds.IntKind.TheVariants.{I8, U8, I16, U16, I32, U32, I64, U64}
use Rattle.floyd_int.specs.Kind.{width, is_signed}
use Rattle.floyd_ctypes.specs.declared.ctype.CType.{CType, Void, Int, Pointer', Array', Struct, Function', more_of-CType, end_of-CType, Row_of-CType}
use Rattle.floyd_ctypes.specs.Structs.{Structs}
use Rattle.floyd_ctypes.specs.Layout.{layout, within_limit, arrays_fit}

-- Kinds of integers.

-- kinds below int become int
abbrev pub promote : IntKind → IntKind
promote I8 = I32
promote U8 = I32
promote I16 = I32
promote U16 = I32
promote I32 = I32
promote U32 = U32
promote I64 = I64
promote U64 = U64

-- the order of the promoted kinds
abbrev pub rank : IntKind → ℕ
rank I8 = 0
rank U8 = 0
rank I16 = 0
rank U16 = 0
rank I32 = 0
rank U32 = 1
rank I64 = 2
rank U64 = 3

abbrev pub later : IntKind → IntKind → IntKind
later a b = if nat_le (rank a) (rank b) then b else a

-- the kind of both operands: the later of the two promoted kinds
abbrev pub usual : IntKind → IntKind → IntKind
usual a b = later (promote a) (promote b)

abbrev pub same_sign : Bool → Bool → Bool
same_sign true b = b
same_sign false b = not b

-- a width and a sign make a kind
abbrev pub same_kind : IntKind → IntKind → Bool
same_kind a b = width a == width b && same_sign (is_signed a) (is_signed b)

-- Types.

abbrev pub pointer_to : CType → CType
pointer_to t = Pointer' tt (more_of-CType t end_of-CType)

abbrev pub array_of : CType → ℕ → CType
array_of t n = Array' tt (more_of-CType t end_of-CType) n

abbrev pub int_type : CType
int_type = Int I32

-- the type of a size in bytes
abbrev pub size_type : CType
size_type = Int U64

-- whether two types are written alike
abbrev mutual
  pub same_type : CType → CType → Bool
  same_type Void Void = true
  same_type (Int j) (Int k) = same_kind j k
  same_type (Pointer' p (more_of-CType t end_of-CType)) (Pointer' q (more_of-CType u end_of-CType)) = same_type t u
  same_type (Array' p (more_of-CType t end_of-CType) m) (Array' q (more_of-CType u end_of-CType) n) = m == n && same_type t u
  same_type (Struct tag) (Struct other) = bytes_eq tag other
  same_type (Function' shape ps p (more_of-CType t end_of-CType)) (Function' other qs q (more_of-CType u end_of-CType)) =
      same_type t u && same_types ps qs
  same_type t u = false

  pub same_types : {m n : _} → Row_of-CType m → Row_of-CType n → Bool
  same_types end_of-CType end_of-CType = true
  same_types (more_of-CType t ts) (more_of-CType u us) = same_type t u && same_types ts us
  same_types ts us = false

abbrev pub is_void : CType → Bool
is_void Void = true
is_void t = false

abbrev pub is_function : CType → Bool
is_function (Function' shape ps p r) = true
is_function t = false

-- an array becomes a pointer to its first element, and a function a pointer to it
abbrev pub decay : CType → CType
decay (Array' p (more_of-CType t end_of-CType) n) = pointer_to t
decay (Function' shape ps p r) = pointer_to (Function' shape ps p r)
decay t = t

-- what a pointer points to
abbrev pub pointee : CType → Option CType
pointee (Pointer' p (more_of-CType t end_of-CType)) = Some t
pointee t = None

abbrev pub kind_of : CType → Option IntKind
kind_of (Int k) = Some k
kind_of t = None

abbrev pub tag_of : CType → Option (List ℕ)
tag_of (Struct tag) = Some tag
tag_of t = None

-- a number or a pointer
abbrev pub is_scalar : CType → Bool
is_scalar (Int k) = true
is_scalar (Pointer' p t) = true
is_scalar t = false

-- void, functions and incomplete structs have no size, nor do arrays of them, nor an array above the limit on objects
abbrev pub has_size : Structs → CType → Bool
has_size structs t = is_some (layout structs t) && arrays_fit structs t

-- Limits.

-- how many pointers, arrays and functions stand around each other; fields do not count
abbrev mutual
  pub nesting : CType → ℕ
  nesting (Pointer' p (more_of-CType t end_of-CType)) = nesting t + 1
  nesting (Array' p (more_of-CType t end_of-CType) n) = nesting t + 1
  nesting (Function' shape ps p (more_of-CType t end_of-CType)) = max (nestings ps) (nesting t) + 1
  nesting t = 0

  pub nestings : {m : _} → Row_of-CType m → ℕ
  nestings end_of-CType = 0
  nestings (more_of-CType t ts) = max (nesting t) (nestings ts)

abbrev pub max_nesting : ℕ
max_nesting = 200

-- whether no array in the type is above the limit on objects, also behind pointers
module _ (structs : Structs) where
  abbrev mutual
    pub arrays_within : CType → Bool
    arrays_within (Pointer' p (more_of-CType t end_of-CType)) = arrays_within t
    arrays_within (Array' p (more_of-CType t end_of-CType) n) = arrays_within t && within_limit (layout structs (array_of t n))
    arrays_within (Function' shape ps p (more_of-CType t end_of-CType)) = all_arrays_within ps && arrays_within t
    arrays_within t = true

    pub all_arrays_within : {m : _} → Row_of-CType m → Bool
    all_arrays_within end_of-CType = true
    all_arrays_within (more_of-CType t ts) = arrays_within t && all_arrays_within ts

-- neither too deep nor too large in an array
abbrev pub is_within : Structs → CType → Bool
is_within structs t = nat_le (nesting t) max_nesting && arrays_within structs t

-- nor too large itself, where it has a size. A struct behind a pointer may be.
abbrev pub is_object_within : Structs → CType → Bool
is_object_within structs t = is_within structs t && within_limit (layout structs t)

-- What is made of types.

-- a struct, an array or a function
abbrev pub is_aggregate : CType → Bool
is_aggregate (Array' p t n) = true
is_aggregate (Struct tag) = true
is_aggregate (Function' shape ps p r) = true
is_aggregate t = false

-- whether each function that the type leads to, through pointers, elements and results, may return what it does
abbrev pub returns_well : CType → Bool
returns_well (Pointer' p (more_of-CType t end_of-CType)) = returns_well t
returns_well (Array' p (more_of-CType t end_of-CType) n) = returns_well t
returns_well (Function' shape ps p (more_of-CType t end_of-CType)) = not (is_aggregate t) && returns_well t
returns_well t = true

-- whether an object may have the type
abbrev pub is_object_type : Structs → CType → Bool
is_object_type structs t = has_size structs t && returns_well t

-- whether a parameter may be declared with the type. An array and a function there become pointers; a struct is not
-- passed by value.
abbrev pub is_passed : Structs → CType → Bool
is_passed structs (Array' p (more_of-CType t end_of-CType) n) = has_size structs t
is_passed structs (Function' shape ps p r) = true
is_passed structs (Struct tag) = false
is_passed structs t = has_size structs t

abbrev pub is_parameter_type : Structs → CType → Bool
is_parameter_type structs t = is_passed structs t && returns_well t
