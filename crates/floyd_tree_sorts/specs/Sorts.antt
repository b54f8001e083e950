-- Sorts: what they are made of, and when two are the same.
use Rattle.std.specs.Prelude.{Bool, true, false, ◌&&◌, Option, Some, None, List, [], ◌∷◌}
use Rattle.floyd_tree_sorts.specs.declared.sorts.Sort.{Sort, Z, Val, ListOf', TreeOf', Prod', end_of-Sort, more_of-Sort}

-- the sort of lists of items of this sort, of trees, and of pairs
abbrev pub list_sort : Sort → Sort
list_sort s = ListOf' tt (more_of-Sort s end_of-Sort)

abbrev pub tree_sort : Sort → Sort
tree_sort s = TreeOf' tt (more_of-Sort s end_of-Sort)

abbrev pub pair_sort : Sort → Sort → Sort
pair_sort a b = Prod' tt (more_of-Sort a end_of-Sort) tt (more_of-Sort b end_of-Sort)

abbrev pub same_sort : Sort → Sort → Bool
same_sort Z Z = true
same_sort Val Val = true
same_sort (ListOf' p (more_of-Sort a end_of-Sort)) (ListOf' q (more_of-Sort b end_of-Sort)) = same_sort a b
same_sort (TreeOf' p (more_of-Sort a end_of-Sort)) (TreeOf' q (more_of-Sort b end_of-Sort)) = same_sort a b
same_sort (Prod' p (more_of-Sort a end_of-Sort) q (more_of-Sort c end_of-Sort)) (Prod' r (more_of-Sort b end_of-Sort) s (more_of-Sort d end_of-Sort)) =
    same_sort a b && same_sort c d
same_sort a b = false

abbrev pub same_sorts : List Sort → List Sort → Bool
same_sorts [] [] = true
same_sorts (a ∷ rest) (b ∷ others) = same_sort a b && same_sorts rest others
same_sorts a b = false

abbrev pub is_z : Sort → Bool
is_z Z = true
is_z s = false

abbrev pub is_val : Sort → Bool
is_val Val = true
is_val s = false

-- whether the second is the sort of lists, or of trees, of items of the first
abbrev pub is_list_of : Sort → Sort → Bool
is_list_of item (ListOf' p (more_of-Sort s end_of-Sort)) = same_sort item s
is_list_of item s = false

abbrev pub is_tree_of : Sort → Sort → Bool
is_tree_of item (TreeOf' p (more_of-Sort s end_of-Sort)) = same_sort item s
is_tree_of item s = false

-- whether the third is the sort of pairs of these
abbrev pub is_pair_of : Sort → Sort → Sort → Bool
is_pair_of a b (Prod' p (more_of-Sort c end_of-Sort) q (more_of-Sort d end_of-Sort)) = same_sort a c && same_sort b d
is_pair_of a b s = false

-- the sort of the items of a list, of the items of a tree, and of the parts of a pair
abbrev pub item_sort : Sort → Option Sort
item_sort (ListOf' p (more_of-Sort s end_of-Sort)) = Some s
item_sort s = None

abbrev pub node_sort : Sort → Option Sort
node_sort (TreeOf' p (more_of-Sort s end_of-Sort)) = Some s
node_sort s = None

abbrev pub first_sort : Sort → Option Sort
first_sort (Prod' p (more_of-Sort a end_of-Sort) q b) = Some a
first_sort s = None

abbrev pub second_sort : Sort → Option Sort
second_sort (Prod' p a q (more_of-Sort b end_of-Sort)) = Some b
second_sort s = None
