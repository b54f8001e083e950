-- The items of literal lists, as the program puts them.
use Rattle.std.specs.Prelude.{ℕ, Bool, true, false, List, [], ◌∷◌, ◌++◌, codes, unwrap_or}
use Rattle.floyd_tree_sorts.specs.declared.heads.Head.{Head}
use Rattle.floyd_tree_sorts.specs.declared.heads.Head.TheVariants.{Nil, Operator}
use Rattle.floyd_tree_sorts.specs.declared.operators.Operator.TheVariants as o
use Rattle.floyd_tree.specs.Plain.{Plain}
use Rattle.floyd_show_terms.specs.Terms.{written}

-- an item before a list
abbrev pub is_cell : Head → Bool
is_cell (Operator o.Cons) = true
is_cell head = false

abbrev pub is_nil : Head → Bool
is_nil (Nil s) = true
is_nil head = false

abbrev pub items_of : Plain → List (List ℕ)
items_of t = unwrap_or (written t).items []

-- what stands before an item: the bracket before the one that opens the list, a comma before the others
abbrev pub item_mark : Bool → List ℕ
item_mark true = codes "["
item_mark false = codes ", "

-- the texts as items, the first of which may open the list, and the closing bracket
abbrev pub bracketed : Bool → List (List ℕ) → List ℕ
bracketed opens [] = codes "]"
bracketed opens (x ∷ xs) = item_mark opens ++ x ++ bracketed false xs
