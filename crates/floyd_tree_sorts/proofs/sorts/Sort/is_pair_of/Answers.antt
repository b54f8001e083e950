use Rattle.std.proofs.Common.{sym, ◌∙◌, ap, ◌&&◌}
use Rattle.floyd_tree_sorts.specs.Sorts.{same_sort, is_pair_of}
use Rattle.floyd_tree_sorts.proofs.SortLemmas.{prod_is}
use Rattle.floyd_tree_sorts.proofs.sorts.Sort.is_pair_of.Goals as goal

pub returns-then-matches : goal.returns-then-matches
returns-then-matches c =
    let first = c.args.first.now in
    let second = c.args.second.now in
    c.matches-then-matches.ensures
    ∙ ap (same_sort second) c.get-then-matches.ensures
    ∙ ap (λ x. x && same_sort second c.in-Prod.b) (sym c.if-matches.true ∙ c.matches.ensures ∙ ap (same_sort first) c.get.ensures)
    ∙ sym (ap (is_pair_of first second) (c.in-Prod.is ∙ prod_is _ _))

pub returns-else-matches : goal.returns-else-matches
returns-else-matches c =
    let first = c.args.first.now in
    let second = c.args.second.now in
    c.if-matches.false
    ∙ ap (λ x. x && same_sort second c.in-Prod.b) (sym c.if-matches.false ∙ c.matches.ensures ∙ ap (same_sort first) c.get.ensures)
    ∙ sym (ap (is_pair_of first second) (c.in-Prod.is ∙ prod_is _ _))
