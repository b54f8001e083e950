use Rattle.std.proofs.Common.{sym, ◌∙◌, ap}
use Rattle.floyd_tree_sorts.specs.Sorts.{same_sort, is_list_of}
use Rattle.floyd_tree_sorts.proofs.SortLemmas.{list_of_is}
use Rattle.floyd_tree_sorts.proofs.sorts.Sort.is_list_of.Goals as goal

pub returns-in-ListOf : goal.returns-in-ListOf
returns-in-ListOf c =
    let item = c.args.item.now in
    c.matches.ensures
    ∙ ap (same_sort item) c.get.ensures
    ∙ sym (ap (is_list_of item) (c.in-ListOf.is ∙ list_of_is c.in-ListOf.own))
