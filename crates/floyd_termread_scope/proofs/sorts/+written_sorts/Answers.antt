use Rattle.std.proofs.Common.{◌≡◌, List, OnOk, reverse, ap, sym, subst, ◌∙◌}
use Rattle.floyd_tree_sorts.specs.declared.sorts.Sort.{Sort}
use Rattle.floyd_termread_trees.specs.declared.written.SortItem.{SortItem}
use Rattle.floyd_termread_scope.specs.WrittenSorts.{with_only, after_item, written_sort}
use Rattle.floyd_termread_scope.proofs.SortLemmas.{after_parenthesised}
use Rattle.floyd_termread_scope.proofs.sorts.+written_sorts.Goals as goal

pub put_item-returns-in_ok-sort-in-Parenthesised : goal.put_item-returns-in_ok-sort-in-Parenthesised
put_item-returns-in_ok-sort-in-Parenthesised t c =
    let before = reverse c.args.stack.now in
    let is = ap (λ s. with_only s before) (c.in_ok-sort-in-Parenthesised.ensures ∙ ap written_sort c.as_slice.ensures)
    ∙ sym (after_parenthesised c.in-Parenthesised.field-0 c.in-Parenthesised.items before)
    ∙ sym (ap (λ (i : SortItem). after_item i before) c.in-Parenthesised.is) in
    subst (λ (after : List Sort). OnOk c.put_only.result (reverse c.put_only.new.stack ≡ after)) is c.put_only.ensures
