-- Modules one after the other.
use Rattle.std.proofs.Common.{◌≡◌, List, [], ◌∷◌, Option, None, refl, sym, ◌∙◌}
use Rattle.std.specs.List.{flat_map}
use Rattle.floyd_text.specs.declared.refusal.Refusal.{Refusal}
use Rattle.floyd_specread_trees.specs.declared.modules.ModuleSpec.{ModuleSpec}
use Rattle.floyd_link_names.specs.Duplicates.{first_from}
use Rattle.floyd_link_names.specs.Main.{main_pre_missing}
use Rattle.floyd_link_names.specs.MainClauses.{modules_by, other_mains}
use Rattle.floyd_link_names.proofs.DuplicateLemmas.{in_parts}

abbrev in_module : ModuleSpec → List Refusal
in_module m = other_mains m.declarations

from_first : (first : Option Refusal) (ms : List ModuleSpec) → modules_by first ms ≡ first_from first (flat_map in_module ms)
from_first first [] = refl
from_first first (m ∷ ms) = from_first (first_from first (in_module m)) ms ∙ sym (in_parts first (in_module m) (flat_map in_module ms))

pub modules_alike : (ms : List ModuleSpec) → modules_by None ms ≡ main_pre_missing ms
modules_alike ms = from_first None ms
