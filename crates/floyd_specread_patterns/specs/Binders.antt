-- The variables of a pattern: the items and parts of a list or tree have the sorts that follow from that of the first argument.
-- Of another sort, or where there is no argument, the pattern has no variables.
use Rattle.std.specs.Prelude.{ℕ, List, [], ◌∷◌, Option, Some, None}
use Rattle.floyd_tree_sorts.specs.declared.sorts.Sort.{Sort}
use Rattle.floyd_tree_sorts.specs.Sorts.{item_sort, node_sort}
use Rattle.floyd_assert_trees.specs.declared.binder.Binder.{Binder}
use Rattle.floyd_assert_trees.specs.declared.pattern.Pattern.{Pattern}
use Rattle.floyd_assert_trees.specs.declared.pattern.Pattern.TheVariants.{Nil, Cons, Leaf, Node}

abbrev pub binder_of : List ℕ → Sort → Binder
binder_of x s = record { name = x; sort = s }

abbrev pub cons_binders : List ℕ → List ℕ → Sort → Option Sort → List Binder
cons_binders item rest whole None = []
cons_binders item rest whole (Some s) = binder_of item s ∷ binder_of rest whole ∷ []

abbrev pub node_binders : List ℕ → List ℕ → List ℕ → Sort → Option Sort → List Binder
node_binders left item right whole None = []
node_binders left item right whole (Some s) = binder_of left whole ∷ binder_of item s ∷ binder_of right whole ∷ []

abbrev pub binders_of : Sort → Pattern → List Binder
binders_of whole Nil = []
binders_of whole (Cons item rest) = cons_binders item rest whole (item_sort whole)
binders_of whole Leaf = []
binders_of whole (Node left item right) = node_binders left item right whole (node_sort whole)

-- by the arguments, of which the first counts
abbrev pub pattern_binders : List Binder → Pattern → List Binder
pattern_binders [] pattern = []
pattern_binders (b ∷ bs) pattern = binders_of b.sort pattern
