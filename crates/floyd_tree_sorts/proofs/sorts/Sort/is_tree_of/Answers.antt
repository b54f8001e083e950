use Rattle.std.proofs.Common.{sym, ◌∙◌, ap}
use Rattle.floyd_tree_sorts.specs.Sorts.{same_sort, is_tree_of}
use Rattle.floyd_tree_sorts.proofs.SortLemmas.{tree_of_is}
use Rattle.floyd_tree_sorts.proofs.sorts.Sort.is_tree_of.Goals as goal

pub returns-in-TreeOf : goal.returns-in-TreeOf
returns-in-TreeOf c =
    let item = c.args.item.now in
    c.matches.ensures
    ∙ ap (same_sort item) c.get.ensures
    ∙ sym (ap (is_tree_of item) (c.in-TreeOf.is ∙ tree_of_is c.in-TreeOf.own))
