use Rattle.std.proofs.Common.{sym, ◌∙◌, ap, Some}
use Rattle.floyd_tree_sorts.specs.Sorts.{item_sort}
use Rattle.floyd_tree_sorts.proofs.SortLemmas.{list_of_is}
use Rattle.floyd_tree_sorts.proofs.sorts.Sort.item.Goals as goal

pub returns-in_ok-share-in-ListOf : goal.returns-in_ok-share-in-ListOf
returns-in_ok-share-in-ListOf c =
    ap Some (c.in_ok-share-in-ListOf.ensures ∙ c.get.ensures) ∙ sym (ap item_sort (c.in-ListOf.is ∙ list_of_is c.in-ListOf.item))
