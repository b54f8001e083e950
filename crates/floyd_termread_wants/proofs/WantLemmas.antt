-- Lists, trees and pairs, as the program has their sorts.
use Rattle.std.proofs.Common.{◌≡◌, true, false, ap}
use Rattle.floyd_tree_sorts.specs.declared.sorts.Sort.{Sort, ListOf, TreeOf, Prod}
use Rattle.floyd_tree_sorts.proofs.SortLemmas.{list_of_is, tree_of_is, prod_is}
use Rattle.floyd_termread_wants.specs.Wants.{is_list, is_tree, is_pair}

pub item_list : (a : Sort) → is_list (ListOf a) ≡ true
item_list a = ap is_list (list_of_is a)

pub item_tree : (a : Sort) → is_list (TreeOf a) ≡ false
item_tree a = ap is_list (tree_of_is a)

pub item_pair : (a b : Sort) → is_list (Prod a b) ≡ false
item_pair a b = ap is_list (prod_is a b)

pub node_list : (a : Sort) → is_tree (ListOf a) ≡ false
node_list a = ap is_tree (list_of_is a)

pub node_tree : (a : Sort) → is_tree (TreeOf a) ≡ true
node_tree a = ap is_tree (tree_of_is a)

pub node_pair : (a b : Sort) → is_tree (Prod a b) ≡ false
node_pair a b = ap is_tree (prod_is a b)

pub first_list : (a : Sort) → is_pair (ListOf a) ≡ false
first_list a = ap is_pair (list_of_is a)

pub first_tree : (a : Sort) → is_pair (TreeOf a) ≡ false
first_tree a = ap is_pair (tree_of_is a)

pub first_pair : (a b : Sort) → is_pair (Prod a b) ≡ true
first_pair a b = ap is_pair (prod_is a b)
