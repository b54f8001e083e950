-- What private calls find with a table of the structs that are defined.
use Rattle.std.specs.Prelude.{Bool, false, not, List, [], ◌∷◌, map, filter, Option, bytes_eq}
use Rattle.std.specs.Map.{lookup}
use Rattle.std.specs.Option.{option_map_or}
use Rattle.floyd_text.specs.declared.refusal.Refusal.{Refusal}
use Rattle.floyd_ctypes.specs.declared.field.Field.{Field}
use Rattle.floyd_clight.specs.declared.unit.ClightUnit.{ClightUnit}
use Rattle.floyd_clight.specs.declared.unit.StructDef.{StructDef}
use Rattle.floyd_specread_sources.specs.Tables.{put_new}
use Rattle.floyd_termread_scope.specs.Scopes.{Named}
use Rattle.floyd_link_names.specs.Duplicates.{first_from}
use Rattle.floyd_link_names.specs.StructsDiffer.{differs_at, same_fields}

abbrev pub with_fields : List StructDef → Named (List Field) → Named (List Field)
with_fields [] table = table
with_fields (d ∷ ds) table = with_fields ds (put_new d.tag d.fields table)

abbrev pub lies_otherwise_by : Named (List Field) → StructDef → Bool
lies_otherwise_by table d = option_map_or (λ fields. not (same_fields d.fields fields)) (lookup (bytes_eq d.tag) table) false

abbrev pub structs_by : Named (List Field) → List StructDef → List Refusal
structs_by table ds = map differs_at (filter (lies_otherwise_by table) ds)

abbrev pub sources_by : Option Refusal → Named (List Field) → List ClightUnit → Option Refusal
sources_by first table [] = first
sources_by first table (u ∷ us) = sources_by (first_from first (structs_by table u.structs)) (with_fields u.structs table) us
