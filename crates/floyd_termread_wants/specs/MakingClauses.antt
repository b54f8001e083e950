-- Words of private clauses: the sort that a head gives by itself, and that an operator gives of sorts.
use Rattle.std.specs.Prelude.{Option, Some, None, option_and_then, List}
use Rattle.floyd_tree_sorts.specs.declared.heads.Head.{Head}
use Rattle.floyd_tree_sorts.specs.declared.heads.Head.TheVariants.{Literal, Variable, Gv, Lv, Nil, Leaf, Signed, Unsigned, Default, Fun, Operator}
use Rattle.floyd_tree_sorts.specs.declared.sorts.Sort.{Sort, Z, Val}
use Rattle.floyd_tree_sorts.specs.Operators.{row}
use Rattle.floyd_tree_sorts.specs.Sorts.{list_sort, tree_sort}
use Rattle.floyd_tree_sorts.specs.Table.{by_row}

abbrev pub fixed_sort : Head → Option Sort
fixed_sort (Literal z) = Some Z
fixed_sort (Variable x s) = Some s
fixed_sort (Gv x) = Some Val
fixed_sort (Lv x) = Some Val
fixed_sort (Nil s) = Some (list_sort s)
fixed_sort (Leaf s) = Some (tree_sort s)
fixed_sort (Signed w) = Some Z
fixed_sort (Unsigned w) = Some Z
fixed_sort (Default shape s) = Some s
fixed_sort (Fun name arguments s) = Some s
fixed_sort (Operator op) = None

abbrev pub operator_sort : Head → Option (List Sort) → Option Sort
operator_sort (Operator op) sorts = option_and_then (by_row (row op)) sorts
operator_sort head sorts = None
