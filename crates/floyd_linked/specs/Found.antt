-- What is found by name in a linked program.
use Rattle.std.specs.Prelude.{ℕ, List, Option, find, bytes_eq, option_and_then, slice_get}
use Rattle.floyd_goal_meaning.specs.declared.linked.ImportBy.{ImportBy}
use Rattle.floyd_goal_meaning.specs.declared.linked.Linked.{Linked}
use Rattle.floyd_goal_meaning.specs.declared.linked.Module.{Module}

-- the module's import of that name with a specification of its own
abbrev pub import_of : List ℕ → Module → Option ImportBy
import_of name m = find (λ (i : ImportBy). bytes_eq name i.name) m.imports

-- and so of the module of that number
abbrev pub import_in : Linked → ℕ → List ℕ → Option ImportBy
import_in L number name = option_and_then (import_of name) (slice_get L.modules number)
