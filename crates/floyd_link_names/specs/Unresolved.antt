-- Names that no module defines.
use Rattle.std.specs.Prelude.{Bool, true, false, ◌&&◌, ◌||◌, not, List, [], ◌∷◌, ◌++◌, map, filter, Option, None}
use Rattle.std.specs.List.{flat_map}
use Rattle.floyd_text.specs.Refusals.{refusal_at}
use Rattle.floyd_text.specs.declared.code.Code.TheVariants.{Unresolved}
use Rattle.floyd_text.specs.declared.refusal.Refusal.{Refusal}
use Rattle.floyd_text.specs.declared.refusal.Shown.TheVariants.{Name}
use Rattle.floyd_clight.specs.declared.unit.ClightUnit.{ClightUnit}
use Rattle.floyd_clight.specs.declared.unit.Variable.{Variable}
use Rattle.floyd_specread_trees.specs.declared.declarations.Declaration.{Declaration}
use Rattle.floyd_specread_trees.specs.declared.declarations.DeclarationKind.{DeclarationKind}
use Rattle.floyd_specread_trees.specs.declared.declarations.DeclarationKind.TheVariants as k
use Rattle.floyd_specread_trees.specs.declared.modules.ModuleSpec.{ModuleSpec}
use Rattle.floyd_termread_scope.specs.Scopes.{Named, is_among}
use Rattle.floyd_link_mentions.specs.Mentions.{mentions}
use Rattle.floyd_link_names.specs.declared.entries.Entry.{Entry}
use Rattle.floyd_link_names.specs.Duplicates.{first_from}
use Rattle.floyd_link_names.specs.Names.{defined_in, has}

-- the names that a specification file mentions under `gv`
abbrev pub Mentioned : Type 0
Mentioned = Named (Unit {0})

abbrev pub is_import : DeclarationKind → Bool
is_import k.Plain = false
is_import k.Import = true
is_import (k.ImportBy by) = true
is_import k.Extern = false

abbrev pub missing_at : Declaration → Refusal
missing_at d = refusal_at Unresolved d.place (Name d.name)

abbrev pub unknown_at : Variable → Refusal
unknown_at v = refusal_at Unresolved v.place (Name v.name)

-- where all modules together define these
module _ (defined : List Entry) where
  abbrev pub is_missing : Declaration → Bool
  is_missing d = is_import d.kind && not (has defined d.name)

  -- at the name of an import that no module defines
  abbrev pub imports_of : ModuleSpec → List Refusal
  imports_of m = map missing_at (filter is_missing m.declarations)

  -- no module defines the variable, and the source mentions it, or its specification file does
  abbrev pub is_unknown : ClightUnit → Mentioned → Variable → Bool
  is_unknown u names v = not (has defined v.name) && (mentions v.name u || is_among names v.name)

  -- at the declarator of such a variable
  abbrev pub variables_of : ClightUnit → Mentioned → List Refusal
  variables_of u names = map unknown_at (filter (is_unknown u names) u.variables)

  -- of each module: its source, its specification, and the names that this mentions
  abbrev pub of_all : List ClightUnit → List ModuleSpec → List Mentioned → List Refusal
  of_all (u ∷ us) (m ∷ ms) (n ∷ ns) = (variables_of u n ++ imports_of m) ++ of_all us ms ns
  of_all us ms ns = []

abbrev pub unresolved : List ClightUnit → List ModuleSpec → List Mentioned → Option Refusal
unresolved units modules mentioned = first_from None (of_all (flat_map defined_in units) units modules mentioned)
