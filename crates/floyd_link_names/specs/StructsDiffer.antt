-- Structs that two sources define with different fields.
use Rattle.std.specs.Prelude.{Bool, true, false, not, ◌&&◌, ℕ, List, [], ◌∷◌, ◌++◌, map, filter, find, Option, None, option_map, bytes_eq}
use Rattle.std.specs.Option.{option_map_or}
use Rattle.floyd_text.specs.Refusals.{refusal_at}
use Rattle.floyd_text.specs.declared.code.Code.TheVariants.{StructDiffers}
use Rattle.floyd_text.specs.declared.refusal.Refusal.{Refusal}
use Rattle.floyd_text.specs.declared.refusal.Shown.TheVariants.{Name}
use Rattle.floyd_ctypes.specs.declared.field.Field.{Field}
use Rattle.floyd_clight.specs.declared.unit.ClightUnit.{ClightUnit}
use Rattle.floyd_clight.specs.declared.unit.StructDef.{StructDef}
use Rattle.floyd_elab_names.specs.Types.{same_type}
use Rattle.floyd_link_names.specs.Duplicates.{first_from}

-- the same fields in the same order
abbrev pub same_fields : List Field → List Field → Bool
same_fields [] [] = true
same_fields [] (g ∷ gs) = false
same_fields (f ∷ fs) [] = false
same_fields (f ∷ fs) (g ∷ gs) = (bytes_eq f.name g.name && same_type f.ty g.ty) && same_fields fs gs

-- the fields of the first of that tag
abbrev pub fields_in : List StructDef → List ℕ → Option (List Field)
fields_in defs tag = option_map (λ (d : StructDef). d.fields) (find (λ (d : StructDef). bytes_eq tag d.tag) defs)

abbrev pub lies_otherwise : List StructDef → StructDef → Bool
lies_otherwise defs d = option_map_or (λ fields. not (same_fields d.fields fields)) (fields_in defs d.tag) false

abbrev pub differs_at : StructDef → Refusal
differs_at d = refusal_at StructDiffers d.place (Name d.tag)

-- at the tag in a definition that differs from an earlier source's, where these define so many
abbrev pub of_structs : List StructDef → List ClightUnit → List Refusal
of_structs defs [] = []
of_structs defs (u ∷ us) = map differs_at (filter (lies_otherwise defs) u.structs) ++ of_structs (defs ++ u.structs) us

abbrev pub struct_differs : List ClightUnit → Option Refusal
struct_differs units = first_from None (of_structs [] units)
