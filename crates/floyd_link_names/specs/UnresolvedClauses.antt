-- What private calls find with a table of the names that all modules define.
use Rattle.std.specs.Prelude.{Bool, ◌&&◌, ◌||◌, not, List, ◌∷◌, map, filter, Option}
use Rattle.floyd_text.specs.declared.refusal.Refusal.{Refusal}
use Rattle.floyd_clight.specs.declared.unit.ClightUnit.{ClightUnit}
use Rattle.floyd_clight.specs.declared.unit.Variable.{Variable}
use Rattle.floyd_specread_trees.specs.declared.declarations.Declaration.{Declaration}
use Rattle.floyd_specread_trees.specs.declared.modules.ModuleSpec.{ModuleSpec}
use Rattle.floyd_link_mentions.specs.Mentions.{mentions}
use Rattle.floyd_link_names.specs.Duplicates.{first_from}
use Rattle.floyd_link_names.specs.DuplicateClauses.{Names, is_in}
use Rattle.floyd_link_names.specs.Unresolved.{Mentioned, is_import, missing_at, unknown_at}

abbrev pub is_missing_by : Names → Declaration → Bool
is_missing_by defined d = is_import d.kind && not (is_in defined d.name)

abbrev pub imports_by : Names → List Declaration → List Refusal
imports_by defined ds = map missing_at (filter (is_missing_by defined) ds)

-- with a table of the names that the source mentions
abbrev pub is_unknown_by : Names → Names → Mentioned → Variable → Bool
is_unknown_by defined own names v = not (is_in defined v.name) && (is_in own v.name || is_in names v.name)

abbrev pub variables_by : Names → Names → Mentioned → List Variable → List Refusal
variables_by defined own names vs = map unknown_at (filter (is_unknown_by defined own names) vs)

abbrev pub is_unknown_in : Names → ClightUnit → Mentioned → Variable → Bool
is_unknown_in defined u names v = not (is_in defined v.name) && (mentions v.name u || is_in names v.name)

abbrev pub unit_by : Names → ClightUnit → Mentioned → List Refusal
unit_by defined u names = map unknown_at (filter (is_unknown_in defined u names) u.variables)

abbrev pub all_by : Option Refusal → Names → List ClightUnit → List ModuleSpec → List Mentioned → Option Refusal
all_by first defined (u ∷ us) (m ∷ ms) (n ∷ ns) = all_by (first_from (first_from first (unit_by defined u n)) (imports_by defined m.declarations)) defined us ms ns
all_by first defined us ms ns = first
