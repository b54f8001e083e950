-- What private calls find in modules one after the other.
use Rattle.std.specs.Prelude.{List, [], ◌∷◌, map, filter, Option}
use Rattle.floyd_text.specs.declared.refusal.Refusal.{Refusal}
use Rattle.floyd_specread_trees.specs.declared.declarations.Declaration.{Declaration}
use Rattle.floyd_specread_trees.specs.declared.modules.ModuleSpec.{ModuleSpec}
use Rattle.floyd_link_names.specs.Duplicates.{first_from}
use Rattle.floyd_link_names.specs.Main.{is_other_main, other_main_at}

abbrev pub other_mains : List Declaration → List Refusal
other_mains ds = map other_main_at (filter is_other_main ds)

abbrev pub modules_by : Option Refusal → List ModuleSpec → Option Refusal
modules_by first [] = first
modules_by first (m ∷ ms) = modules_by (first_from first (other_mains m.declarations)) ms
