-- What a table of structs keeps of each, and what it stands for.
use Rattle.std.specs.Prelude.{◌≡◌, ◌<◌, ◌+◌, ◌^◌, ℕ, List, [], ◌∷◌, Option, None, Some, option_map, option_and_then, if◌then◌else◌, cond, map, length, All, IsTrue, bytes_eq}
use Rattle.std.specs.Map.{lookup}
use Rattle.indexmap.specs.IndexMap.{get}
use Rattle.floyd_ctypes.specs.declared.ctype.CType.{CType, Struct}
use Rattle.floyd_ctypes.specs.declared.field.Field.{Field}
use Rattle.floyd_ctypes.specs.declared.laid.FieldPlace.{FieldPlace}
use Rattle.floyd_ctypes.specs.declared.laid.Laid.{Laid}
use Rattle.floyd_ctypes.specs.declared.layout.Layout.{Layout}
use Rattle.floyd_ctypes.specs.Layout.{layout, fields_layout, type_fits, nothing_laid, offset_after, after}
use Rattle.floyd_ctypes.specs.Structs.{Structs, fields_of}

-- the fields of what is kept of a struct
abbrev pub kept_fields : Option Laid → Option (List Field)
kept_fields kept = option_map (λ laid. laid.fields) kept

-- the structs that are kept
abbrev pub seen : List (List ℕ × Option Laid) → Structs
seen entries = map (λ e. (e.0, kept_fields e.1)) entries

-- the index and the offset of the first field of that name, where `index` fields are laid before
abbrev pub place_from : (CType → Option Layout) → ℕ → Layout → List Field → List ℕ → Option FieldPlace
place_from of index laid [] name = None
place_from of index laid (f ∷ fs) name =
    option_and_then
    (λ l. if bytes_eq name f.name then Some (record { index = index; offset = offset_after laid l }) else place_from of (index + 1) (after laid l) fs name)
    (of f.ty)

-- the first of two
abbrev pub either : {A : Type 0} → Option A → Option A → Option A
either None p = p
either (Some a) p = Some a

-- what is kept of the struct of that tag is right
pub record IsLaid (structs : Structs) (tag : List ℕ) (laid : Laid) : Type 0 where
  pub fields : fields_of structs tag ≡ Some laid.fields
  pub whole : fields_layout (layout structs) laid.fields ≡ Some laid.layout
  pub named : layout structs (Struct tag) ≡ Some laid.layout
  pub places : (name : List ℕ) → get bytes_eq laid.places name ≡ place_from (layout structs) 0 nothing_laid laid.fields name
  pub some : 0 < length laid.fields
  pub few : length laid.fields < 2 ^ 31
  pub fits : All (λ f. IsTrue (type_fits structs f.ty)) laid.fields

-- what is kept of each complete struct is right
abbrev pub IsTable : List (List ℕ × Option Laid) → Type 0
IsTable entries = (tag : List ℕ) (laid : Laid) → lookup (bytes_eq tag) entries ≡ Some (Some laid) → IsLaid (seen entries) tag laid

-- after this is put at the tag, and nothing else is changed
abbrev pub PutsEntry : List (List ℕ × Option Laid) → List ℕ → Option Laid → List (List ℕ × Option Laid) → Type 0
PutsEntry before tag kept now = (q : List ℕ) → lookup (bytes_eq q) now ≡ cond (bytes_eq tag q) (Some kept) (lookup (bytes_eq q) before)
