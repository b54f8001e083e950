-- Initial contents that are of a type.
use Rattle.std.specs.Prelude.{◌≡◌, ◌⊎◌, ℕ, ◌+◌, ◌*◌, ◌<◌, ◌≤◌, ◌^◌, ◌||◌, true, false, List, length, Option, Some, None, option_map, slice_get, bytes_eq, []}
use Rattle.std.specs.Map.{lookup}
use Rattle.std.specs.Option.{unwrap_or}
use Rattle.floyd_int.specs.Kind.{width}
use Rattle.floyd_ctypes.specs.declared.ctype.CType.{CType, Void, Int, Array', Struct, more_of-CType, end_of-CType}
use Rattle.floyd_ctypes.specs.declared.field.Field.{Field}
use Rattle.floyd_ctypes.specs.Layout.{size}
use Rattle.floyd_ctypes.specs.Structs.{Structs, fields_of}
use Rattle.floyd_clight.specs.declared.initial.Initial.{Initial, Absent, Null, Address, Element, Parts', Row_of-Initial, end_of-Initial, more_of-Initial}
use Rattle.floyd_clight.specs.declared.initial.Initial as i
use Rattle.floyd_clight_machine.specs.Types.{is_pointer, pointee, same_type}

-- a pointer that may lead to what has type u: its own type leads there, or to void
pub record LeadsTo (t u : CType) : Type 0 where
  pub pointer : is_pointer t ≡ true
  pub target : CType
  pub to : pointee t ≡ Some target
  pub same : (same_type target u || same_type target Void) ≡ true

-- the address of what has that type, where t takes it: of the whole, or of an array's first element, or of a function
abbrev pub HasAddress : CType → CType → Type 0
HasAddress t u = LeadsTo t u ⊎ ((first : CType) × (pointee u ≡ Some first) × (is_pointer u ≡ false) × LeadsTo t first)

-- an element of an array of that type, so many bytes behind its start
abbrev pub HasElement : Structs → CType → CType → ℕ → Type 0
HasElement structs t (Array' p (more_of-CType u end_of-CType) n) offset = LeadsTo t u × ((bytes : ℕ) × (index : ℕ) × (size structs u ≡ Some bytes) × (offset ≡ index * bytes))
HasElement structs t u offset = ⊥

-- how many parts an array or a struct has, and the type of the part at a number from 0 on
abbrev pub part_count : Structs → CType → ℕ
part_count structs (Array' p t n) = n
part_count structs (Struct tag) = length (unwrap_or (fields_of structs tag) [])
part_count structs t = 0

abbrev pub part_at : Structs → CType → ℕ → Option CType
part_at structs (Array' p (more_of-CType t end_of-CType) n) at = Some t
part_at structs (Struct tag) at = option_map (λ (f : Field). f.ty) (slice_get (unwrap_or (fields_of structs tag) []) at)
part_at structs t at = None

module _ (structs : Structs) (file : List (List ℕ × CType)) where
  abbrev mutual
    -- A number is one of the kind, and an address that of a variable or a function of the file, of which the type takes it.
    -- Of an array or a struct no more is written than there is, each part of its type.
    pub AreOf : CType → Initial → Type 0
    AreOf t Absent = Unit {0}
    AreOf t (i.Int k bits) = (t ≡ Int k) × (bits < 2 ^ width k)
    AreOf t Null = is_pointer t ≡ true
    AreOf t (Address x) = (u : CType) × (lookup (bytes_eq x) file ≡ Some u) × HasAddress t u
    AreOf t (Element x offset) = (u : CType) × (lookup (bytes_eq x) file ≡ Some u) × HasElement structs t u offset
    AreOf t (Parts' shape rows) = (length shape ≤ part_count structs t) × PartsAreOf t 0 rows

    -- the parts from a number on
    pub PartsAreOf : {n : _} → CType → ℕ → Row_of-Initial n → Type 0
    PartsAreOf t at end_of-Initial = Unit {0}
    PartsAreOf t at (more_of-Initial part rest) = ((u : CType) × (part_at structs t at ≡ Some u) × AreOf u part) × PartsAreOf t (at + 1) rest
