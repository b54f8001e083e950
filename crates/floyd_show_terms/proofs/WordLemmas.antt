-- Sorts, as the program takes them apart.
use Rattle.std.proofs.Common.{◌≡◌, ◌++◌, refl}
use Rattle.std.specs.Prelude.{codes}
use Rattle.floyd_tree_sorts.specs.declared.sorts.Sort.{Sort, ListOf, TreeOf, Prod}
use Rattle.floyd_tree_sorts.specs.declared.sorts.Sort.TheBlock.{shape-the_row-Sort-0, hidden-the_row-Sort-0}
use Rattle.floyd_show_terms.specs.Words.{sort_text}
use denote.Hole.Carrier.{hidden}

pub list_text : (a : Sort) → sort_text (ListOf a) ≡ codes "list " ++ sort_text a
unfolding shape-the_row-Sort-0 hidden-the_row-Sort-0 hidden
list_text a = refl

pub tree_text : (a : Sort) → sort_text (TreeOf a) ≡ codes "tree " ++ sort_text a
unfolding shape-the_row-Sort-0 hidden-the_row-Sort-0 hidden
tree_text a = refl

pub pair_text : (a b : Sort) → sort_text (Prod a b) ≡ codes "prod " ++ sort_text a ++ codes " " ++ sort_text b
unfolding shape-the_row-Sort-0 hidden-the_row-Sort-0 hidden
pair_text a b = refl
