-- The variables that are bound while an assertion is read, as the program binds them, and the names of temporaries.
use Rattle.std.specs.Prelude.{◌≡◌, ℕ, cond, is_some, List, [], ◌∷◌, Option, Some, bytes_eq}
use Rattle.floyd_tree_sorts.specs.declared.sorts.Sort.{Sort}
use Rattle.floyd_assert_trees.specs.declared.assertion.Local.{Local}
use Rattle.floyd_assert_trees.specs.declared.binder.Binder.{Binder}
use Rattle.floyd_termread_scope.specs.declared.variables.Variables.{Variables}
use Rattle.floyd_termread_scope.specs.Scopes.{sort_of}
use Rattle.floyd_termread_assertions.specs.Assertions.{has_local}

abbrev pub Sorts : Type 0
Sorts = List ℕ → Option Sort

abbrev pub bound_by : Binder → Sorts → Sorts
bound_by b sorts = λ y. cond (bytes_eq b.name y) (Some b.sort) (sorts y)

abbrev pub bound_by_all : List Binder → Sorts → Sorts
bound_by_all [] sorts = sorts
bound_by_all (b ∷ bs) sorts = bound_by_all bs (bound_by b sorts)

-- the names are those of the temporaries
abbrev pub SameNames : List Local → Variables → Type 0
SameNames ls names = (x : List ℕ) → is_some (sort_of names x) ≡ has_local x ls
