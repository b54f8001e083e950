-- What names stand for in the arguments of a command: variables are those of the goal's context.
use Rattle.std.specs.Prelude.{ℕ, cond, List, [], ◌∷◌, Option, Some, None, bytes_eq}
use Rattle.floyd_tree_sorts.specs.declared.sorts.Sort.{Sort}
use Rattle.floyd_assert_trees.specs.declared.binder.Binder.{Binder}

-- the sorts of variables, by their names
abbrev pub Sorts : Type 0
Sorts = List ℕ → Option Sort

abbrev pub no_sorts : Sorts
no_sorts x = None

-- with one more variable, which hides one of the same name
abbrev pub with_binder : Binder → Sorts → Sorts
with_binder b sorts = λ y. cond (bytes_eq b.name y) (Some b.sort) (sorts y)

abbrev pub with_binders : List Binder → Sorts → Sorts
with_binders [] sorts = sorts
with_binders (b ∷ bs) sorts = with_binders bs (with_binder b sorts)

-- those of binders; no two variables of a context have one name
abbrev pub sorts_in : List Binder → Sorts
sorts_in bs = with_binders bs no_sorts
