-- What private calls find with tables of the names that are declared and defined.
use Rattle.std.specs.Prelude.{Bool, ◌&&◌, ℕ, List, [], ◌∷◌, map, filter, Option, is_some, bytes_eq}
use Rattle.std.specs.Map.{lookup}
use Rattle.floyd_text.specs.declared.refusal.Refusal.{Refusal}
use Rattle.floyd_ctypes.specs.declared.ctype.CType.{CType}
use Rattle.floyd_clight.specs.declared.unit.ClightUnit.{ClightUnit}
use Rattle.floyd_specread_trees.specs.declared.declarations.Declaration.{Declaration}
use Rattle.floyd_specread_trees.specs.declared.modules.ModuleSpec.{ModuleSpec}
use Rattle.floyd_termread_scope.specs.Scopes.{Named}
use Rattle.floyd_link_names.specs.declared.entries.Entry.{Entry}
use Rattle.floyd_link_names.specs.Duplicates.{declared_at, duplicate_at, first_from, is_extern}
use Rattle.floyd_link_names.specs.Names.{declared_in, defined_in, is_other}
use Rattle.floyd_link_names.specs.Tables.{with_names, with_types}

abbrev pub Names : Type 0
Names = Named (Unit {0})

abbrev pub is_in : Names → List ℕ → Bool
is_in table x = is_some (lookup (bytes_eq x) table)

abbrev pub again_by : Names → List Entry → List Refusal
again_by table es = map duplicate_at (filter (λ (e : Entry). is_in table e.name) es)

abbrev pub differs_by : Named CType → Entry → Bool
differs_by table e = is_other e.ctype (lookup (bytes_eq e.name) table)

abbrev pub otherwise_by : Named CType → List Entry → List Refusal
otherwise_by table es = map duplicate_at (filter (differs_by table) es)

-- of one source, behind one before
abbrev pub source_by : Option Refusal → Named CType → Names → ClightUnit → Option Refusal
source_by first types names u = first_from (first_from first (again_by names (defined_in u))) (otherwise_by types (declared_in u))

abbrev pub sources_by : Option Refusal → Named CType → Names → List ClightUnit → Option Refusal
sources_by first types names [] = first
sources_by first types names (u ∷ us) = sources_by (source_by first types names u) (with_types (declared_in u) types) (with_names (defined_in u) names) us

abbrev pub all_names : Names → List ClightUnit → Names
all_names names [] = names
all_names names (u ∷ us) = all_names (with_names (defined_in u) names) us

abbrev pub is_extern_by : Names → Declaration → Bool
is_extern_by names d = is_extern d.kind && is_in names d.name

abbrev pub externs_by : Names → List Declaration → List Refusal
externs_by names ds = map declared_at (filter (is_extern_by names) ds)

abbrev pub modules_by : Option Refusal → Names → List ModuleSpec → Option Refusal
modules_by first names [] = first
modules_by first names (m ∷ ms) = modules_by (first_from first (externs_by names m.declarations)) names ms
