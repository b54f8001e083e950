-- Complete trees of sums.
use Rattle.std.specs.Prelude.{ℕ, zero, suc, List}
use Rattle.floyd_tree_sorts.specs.declared.heads.Head.TheVariants.{Operator, Variable}
use Rattle.floyd_tree_sorts.specs.declared.operators.Operator.TheVariants.{Add}
use Rattle.floyd_tree_sorts.specs.declared.sorts.Sort.{Z}
use Rattle.floyd_tree.specs.Plain.{Plain, At, Done, More}

abbrev pub sum_of : Plain → Plain → Plain
sum_of a b = At (Operator Add) (More a (More b Done))

-- n levels of sums over leaves that are all alike
abbrev pub full : ℕ → Plain → Plain
full zero leaf = leaf
full (suc n) leaf = sum_of (full n leaf) (full n leaf)

-- the same, where the leftmost leaf is another one
abbrev pub spine : ℕ → Plain → Plain → Plain
spine zero first leaf = first
spine (suc n) first leaf = sum_of (spine n first leaf) (full n leaf)

-- the variable of numbers
abbrev pub number_named : List ℕ → Plain
number_named x = At (Variable x Z) Done
