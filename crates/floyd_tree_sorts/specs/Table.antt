-- The sort table: which sorts a head takes, and which sort it gives.
use Rattle.std.specs.Prelude.{ℕ, ◌+◌, Bool, true, false, ◌&&◌, if◌then◌else◌, Option, Some, None, List, [], ◌∷◌, nat_eq, length, unwrap_or}
use Rattle.floyd_tree_sorts.specs.declared.sorts.Sort.{Sort, Z, Val}
use Rattle.floyd_tree_sorts.specs.declared.shape.Shape.{Shape, Void, Int, Pointer', Array', Struct, Function', Row_of-Shape, end_of-Shape, more_of-Shape}
use Rattle.floyd_tree_sorts.specs.declared.heads.Head.{Head}
use Rattle.floyd_tree_sorts.specs.declared.heads.Head.TheVariants.{Literal, Variable, Gv, Lv, Nil, Leaf, Signed, Unsigned, Default, Fun, Operator}
use Rattle.floyd_tree_sorts.specs.declared.operators.RowSort.{RowSort}
use Rattle.floyd_tree_sorts.specs.declared.operators.RowSort.TheVariants as r
use Rattle.floyd_tree_sorts.specs.declared.operators.Arguments.{Arguments}
use Rattle.floyd_tree_sorts.specs.declared.operators.Arguments.TheVariants.{Nothing, One, Two, Three}
use Rattle.floyd_tree_sorts.specs.declared.operators.Row.{Row}
use Rattle.floyd_tree_sorts.specs.Operators.{row}
use Rattle.floyd_tree_sorts.specs.Sorts.{list_sort, tree_sort, pair_sort, same_sort, same_sorts, is_z, item_sort, node_sort, first_sort, second_sort}

-- how many arrays a type has: each has a size
abbrev mutual
  pub arrays : Shape → ℕ
  arrays Void = 0
  arrays (Int kind) = 0
  arrays (Pointer' p (more_of-Shape target end_of-Shape)) = arrays target
  arrays (Array' p (more_of-Shape item end_of-Shape)) = arrays item + 1
  arrays (Struct tag) = 0
  arrays (Function' p parameters q (more_of-Shape result end_of-Shape)) = arrays_in parameters + arrays result

  pub arrays_in : {n : _} → Row_of-Shape n → ℕ
  arrays_in end_of-Shape = 0
  arrays_in (more_of-Shape shape rest) = arrays shape + arrays_in rest

abbrev pub when : Bool → Sort → Option Sort
when test sort = if test then Some sort else None

-- what a row writes, where these sorts stand for S and T
abbrev pub written : Sort → Sort → RowSort → Sort
written s t r.Z = Z
written s t r.Val = Val
written s t r.S = s
written s t r.T = t
written s t r.ListZ = list_sort Z
written s t r.ListVal = list_sort Val
written s t r.ListS = list_sort s
written s t r.TreeS = tree_sort s
written s t r.ProdST = pair_sort s t

-- what stands for S, or for T, in an argument of this sort, and else the other
abbrev pub s_in : RowSort → Sort → Sort → Sort
s_in r.S a other = a
s_in r.ListS a other = unwrap_or (item_sort a) other
s_in r.TreeS a other = unwrap_or (node_sort a) other
s_in r.ProdST a other = unwrap_or (first_sort a) other
s_in form a other = other

abbrev pub t_in : RowSort → Sort → Sort → Sort
t_in r.T a other = a
t_in r.ProdST a other = unwrap_or (second_sort a) other
t_in form a other = other

abbrev pub forms : Arguments → List RowSort
forms Nothing = []
forms (One p) = p ∷ []
forms (Two p q) = p ∷ q ∷ []
forms (Three p q o) = p ∷ q ∷ o ∷ []

-- what is first found in the arguments
abbrev pub found : (RowSort → Sort → Sort → Sort) → List RowSort → List Sort → Sort
found find (p ∷ more) (a ∷ sorts) = find p a (found find more sorts)
found find more sorts = Z

-- whether the sorts are those that are written
abbrev pub fit : Sort → Sort → Arguments → List Sort → Bool
fit s t Nothing [] = true
fit s t (One p) (a ∷ []) = same_sort (written s t p) a
fit s t (Two p q) (a ∷ b ∷ []) = same_sort (written s t p) a && same_sort (written s t q) b
fit s t (Three p q o) (a ∷ b ∷ c ∷ []) = same_sort (written s t p) a && (same_sort (written s t q) b && same_sort (written s t o) c)
fit s t takes sorts = false

abbrev pub gives_with : Sort → Sort → Row → List Sort → Option Sort
gives_with s t own sorts = when (fit s t own.takes sorts) (written s t own.gives)

-- what an operator of this row gives of kids of these sorts: S and T are found in them
abbrev pub by_row : Row → List Sort → Option Sort
by_row own sorts = gives_with (found s_in (forms own.takes) sorts) (found t_in (forms own.takes) sorts) own sorts

abbrev pub all_z : List Sort → Bool
all_z [] = true
all_z (a ∷ more) = is_z a && all_z more

-- of no kids
abbrev pub alone : Sort → List Sort → Option Sort
alone s [] = Some s
alone s (a ∷ more) = None

-- of one kid, which is a number
abbrev pub of_number : List Sort → Option Sort
of_number [] = None
of_number (a ∷ []) = when (is_z a) Z
of_number (a ∷ b ∷ more) = None

-- the sort that a head gives of kids of these sorts, where it takes them
abbrev pub sort_at : Head → List Sort → Option Sort
sort_at (Literal z) sorts = alone Z sorts
sort_at (Variable x s) sorts = alone s sorts
sort_at (Gv x) sorts = alone Val sorts
sort_at (Lv x) sorts = alone Val sorts
sort_at (Nil s) sorts = alone (list_sort s) sorts
sort_at (Leaf s) sorts = alone (tree_sort s) sorts
sort_at (Signed w) sorts = of_number sorts
sort_at (Unsigned w) sorts = of_number sorts
sort_at (Default shape s) sorts = when (nat_eq (length sorts) (arrays shape) && all_z sorts) s
sort_at (Fun name arguments s) sorts = when (same_sorts arguments sorts) s
sort_at (Operator operator) sorts = by_row (row operator) sorts
