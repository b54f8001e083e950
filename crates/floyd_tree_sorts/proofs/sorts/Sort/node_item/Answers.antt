use Rattle.std.proofs.Common.{sym, ◌∙◌, ap, Some}
use Rattle.floyd_tree_sorts.specs.Sorts.{node_sort}
use Rattle.floyd_tree_sorts.proofs.SortLemmas.{tree_of_is}
use Rattle.floyd_tree_sorts.proofs.sorts.Sort.node_item.Goals as goal

pub returns-in_ok-share-in-TreeOf : goal.returns-in_ok-share-in-TreeOf
returns-in_ok-share-in-TreeOf c =
    ap Some (c.in_ok-share-in-TreeOf.ensures ∙ c.get.ensures) ∙ sym (ap node_sort (c.in-TreeOf.is ∙ tree_of_is c.in-TreeOf.item))
