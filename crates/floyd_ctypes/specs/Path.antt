-- The type and the offset at a path of fields and subscripts.
use Rattle.std.specs.Prelude.{ℕ, Bool, false, ℤ, pos, ◌+ℤ◌, ◌*ℤ◌, ◌&&◌, nat_lt, List, [], ◌∷◌, Option, None, Some, is_some, option_map, option_and_then, if◌then◌else◌}
use Rattle.std.specs.Option.{option_map_or}
use Rattle.floyd_ctypes.specs.declared.ctype.CType.{CType, Array', Struct, more_of-CType, end_of-CType}
use Rattle.floyd_ctypes.specs.Layout.{layout, size, offset}
use Rattle.floyd_ctypes.specs.Structs.{Structs, field_of}

-- a step from a struct to its field of that name, or from an array to its element at that place
pub data Step : Type 0 where
  Dot : (name : List ℕ) → Step
  At : (place : ℤ) → Step

-- the type after a step; a subscript may lie outside its array
abbrev pub type_after : Structs → CType → Step → Option CType
type_after structs (Struct tag) (Dot name) = option_map (λ f. f.ty) (field_of structs tag name)
type_after structs (Array' p (more_of-CType t end_of-CType) n) (At place) = Some t
type_after structs t s = None

-- how far a step leads, in bytes
abbrev pub step_offset : Structs → CType → Step → Option ℤ
step_offset structs (Struct tag) (Dot name) = option_map pos (offset structs tag name)
step_offset structs (Array' p (more_of-CType t end_of-CType) n) (At place) = option_map (λ bytes. pos bytes *ℤ place) (size structs t)
step_offset structs t s = None

-- the type at a path; there is none where the type has no size
abbrev pub type_at : Structs → CType → List Step → Option CType
type_at structs t [] = if is_some (layout structs t) then Some t else None
type_at structs t (s ∷ path) = option_and_then (λ u. type_at structs u path) (type_after structs t s)

-- the offset at a path, where it has a type
abbrev pub offset_at : Structs → CType → List Step → Option ℤ
offset_at structs t [] = if is_some (layout structs t) then Some (pos 0) else None
offset_at structs t (s ∷ path) =
    option_and_then (λ o. option_and_then (λ u. option_map (λ rest. o +ℤ rest) (offset_at structs u path)) (type_after structs t s)) (step_offset structs t s)

-- whether the path has a type, and each subscript lies in its array
abbrev pub is_legal : Structs → CType → List Step → Bool
is_legal structs t [] = is_some (layout structs t)
is_legal structs (Struct tag) (Dot name ∷ path) = option_map_or (λ f. is_legal structs f.ty path) (field_of structs tag name) false
is_legal structs (Array' p (more_of-CType t end_of-CType) n) (At (pos i) ∷ path) = nat_lt i n && is_legal structs t path
is_legal structs t path = false
