-- The first places of names in a list, as a table.
use Rattle.std.specs.Prelude.{ℕ, ◌+◌, if◌then◌else◌, List, [], ◌∷◌, ◌++◌, map, is_some, bytes_eq}
use Rattle.std.specs.Map.{lookup}
use Rattle.floyd_goal_meaning.specs.declared.linked.ImportBy.{ImportBy}
use Rattle.floyd_goal_meaning.specs.declared.linked.LinkedFunction.{LinkedFunction}
use Rattle.floyd_goal_meaning.specs.declared.linked.Module.{Module}

abbrev pub Places : Type 0
Places = List (List ℕ × ℕ)

-- the name's place, unless it has one
abbrev pub with_place : List ℕ → ℕ → Places → Places
with_place name place all = if is_some (lookup (bytes_eq name) all) then all else all ++ (name, place) ∷ []

-- the places of these names, where the list goes on at this place
abbrev pub with_places : ℕ → List (List ℕ) → Places → Places
with_places at [] all = all
with_places at (name ∷ names) all = with_places (at + 1) names (with_place name at all)

abbrev pub function_names : List LinkedFunction → List (List ℕ)
function_names functions = map (λ (f : LinkedFunction). f.name) functions

abbrev pub import_names : List ImportBy → List (List ℕ)
import_names imports = map (λ (i : ImportBy). i.name) imports

abbrev pub function_places : List LinkedFunction → Places
function_places functions = with_places 0 (function_names functions) []

abbrev pub import_places : Module → Places
import_places m = with_places 0 (import_names m.imports) []
