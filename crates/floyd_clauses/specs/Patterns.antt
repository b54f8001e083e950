-- Patterns of FUNs and PREDs, and terms with a constructor at their heads.
use Rattle.std.specs.Prelude.{ℕ, Bool, true, false, List, [], ◌∷◌}
use Rattle.floyd_tree_sorts.specs.declared.heads.Head.{Head}
use Rattle.floyd_tree_sorts.specs.declared.heads.Head.TheVariants as h
use Rattle.floyd_tree_sorts.specs.declared.operators.Operator.TheVariants as o
use Rattle.floyd_tree.specs.Plain.{Plain}
use Rattle.floyd_assert_trees.specs.declared.pattern.Pattern.{Pattern}
use Rattle.floyd_assert_trees.specs.declared.pattern.Pattern.TheVariants.{Nil, Cons, Leaf, Node}

abbrev pub is_nil : Head → Bool
is_nil (h.Nil s) = true
is_nil head = false

abbrev pub is_cons : Head → Bool
is_cons (h.Operator o.Cons) = true
is_cons head = false

abbrev pub is_leaf : Head → Bool
is_leaf (h.Leaf s) = true
is_leaf head = false

abbrev pub is_node : Head → Bool
is_node (h.Operator o.Node) = true
is_node head = false

-- the pattern is of that constructor
abbrev pub is_of : Pattern → Head → Bool
is_of Nil head = is_nil head
is_of (Cons item rest) head = is_cons head
is_of Leaf head = is_leaf head
is_of (Node left item right) head = is_node head

-- the constructor's arguments by the names that the pattern gives them
abbrev pub named_parts : Pattern → List Plain → List (List ℕ × Plain)
named_parts (Cons item rest) (t ∷ u ∷ more) = (item, t) ∷ (rest, u) ∷ []
named_parts (Node left item right) (t ∷ u ∷ v ∷ more) = (left, t) ∷ (item, u) ∷ (right, v) ∷ []
named_parts pattern kids = []
