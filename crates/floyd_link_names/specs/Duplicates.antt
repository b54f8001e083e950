-- Names that are declared or defined once too often.
use Rattle.std.specs.Prelude.{Bool, false, true, ◌&&◌, List, [], ◌∷◌, ◌++◌, map, filter, Option, Some, None}
use Rattle.std.specs.List.{flat_map}
use Rattle.floyd_text.specs.Refusals.{refusal_at}
use Rattle.floyd_text.specs.declared.code.Code.TheVariants.{Duplicate}
use Rattle.floyd_text.specs.declared.refusal.Refusal.{Refusal}
use Rattle.floyd_text.specs.declared.refusal.Shown.TheVariants.{Name}
use Rattle.floyd_clight.specs.declared.unit.ClightUnit.{ClightUnit}
use Rattle.floyd_predicates.specs.WellFormed.{earliest}
use Rattle.floyd_specread_trees.specs.declared.declarations.Declaration.{Declaration}
use Rattle.floyd_specread_trees.specs.declared.declarations.DeclarationKind.{DeclarationKind}
use Rattle.floyd_specread_trees.specs.declared.declarations.DeclarationKind.TheVariants as k
use Rattle.floyd_specread_trees.specs.declared.modules.ModuleSpec.{ModuleSpec}
use Rattle.floyd_link_names.specs.declared.entries.Entry.{Entry}
use Rattle.floyd_link_names.specs.Names.{declared_in, defined_in, differs, has}

-- of several refusals, and one before, the one at the earliest place
abbrev pub first_from : Option Refusal → List Refusal → Option Refusal
first_from first rs = earliest first (map Some rs)

abbrev pub duplicate_at : Entry → Refusal
duplicate_at e = refusal_at Duplicate e.place (Name e.name)

-- at a definition of what an earlier source defines
abbrev pub again : List Entry → List Entry → List Refusal
again defined es = map duplicate_at (filter (λ (e : Entry). has defined e.name) es)

-- At the first declaration in a source of what earlier ones declare with another type. Where these differ among
-- themselves, that is refused at an earlier place.
abbrev pub otherwise : List Entry → List Entry → List Refusal
otherwise declared es = map duplicate_at (filter (differs declared) es)

-- of each source, where those before it declare and define these
abbrev pub of_sources : List Entry → List Entry → List ClightUnit → List Refusal
of_sources declared defined [] = []
of_sources declared defined (u ∷ us) =
    (again defined (defined_in u) ++ otherwise declared (declared_in u)) ++ of_sources (declared ++ declared_in u) (defined ++ defined_in u) us

abbrev pub is_extern : DeclarationKind → Bool
is_extern k.Plain = false
is_extern k.Import = false
is_extern (k.ImportBy by) = false
is_extern k.Extern = true

abbrev pub declared_at : Declaration → Refusal
declared_at d = refusal_at Duplicate d.place (Name d.name)

abbrev pub is_extern_of : List Entry → Declaration → Bool
is_extern_of defined d = is_extern d.kind && has defined d.name

-- at the name in an EXTERN of what a module defines
abbrev pub extern_in : List Entry → ModuleSpec → List Refusal
extern_in defined m = map declared_at (filter (is_extern_of defined) m.declarations)

-- two definitions of a name, two types of one, or an EXTERN that a module defines
abbrev pub duplicate : List ClightUnit → List ModuleSpec → Option Refusal
duplicate units modules = first_from (first_from None (of_sources [] [] units)) (flat_map (extern_in (flat_map defined_in units)) modules)
