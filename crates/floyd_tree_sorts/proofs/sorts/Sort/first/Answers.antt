use Rattle.std.proofs.Common.{sym, ◌∙◌, ap, Some}
use Rattle.floyd_tree_sorts.specs.Sorts.{first_sort}
use Rattle.floyd_tree_sorts.proofs.SortLemmas.{prod_is}
use Rattle.floyd_tree_sorts.proofs.sorts.Sort.first.Goals as goal

pub returns-in_ok-share-in-Prod : goal.returns-in_ok-share-in-Prod
returns-in_ok-share-in-Prod c =
    ap Some (c.in_ok-share-in-Prod.ensures ∙ c.get.ensures) ∙ sym (ap first_sort (c.in-Prod.is ∙ prod_is _ _))
