-- Rows of written sorts, and stacks whose top is the last item.
use Rattle.std.proofs.Common.{◌≡◌, List, [], ◌∷◌, ◌++◌, reverse, refl, ap, sym, ◌∙◌}
use Rattle.std.proofs.lemmas.List.{reverse-append}
use Rattle.floyd_tree_sorts.specs.declared.sorts.Sort.{Sort}
use Rattle.floyd_text.specs.declared.place.Place.{Place}
use Rattle.floyd_termread_trees.specs.declared.written.SortItem as i
use Rattle.floyd_termread_trees.specs.declared.written.SortItem.TheBlock.{hidden-the_row-SortItem-0, items_hidden-the_row-SortItem-0}
use Rattle.floyd_termread_scope.specs.WrittenSorts.{after_item, sorts_in, sorts_from, only, with_only}

pub reverse-snoc : (xs : List Sort) (x : Sort) → reverse (xs ++ x ∷ []) ≡ x ∷ reverse xs
reverse-snoc xs x = reverse-append xs (x ∷ [])

pub sorts-items : {n : _} (row : i.Row_of-SortItem n) → sorts_in row ≡ sorts_from (i.items-the_row-SortItem n row)
sorts-items i.end_of-SortItem = refl
sorts-items (i.more_of-SortItem item rest) = ap (after_item item) (sorts-items rest)

pub after_parenthesised : (place : Place) (items : List i.SortItem) (ss : List Sort) → after_item (i.Parenthesised place items) ss ≡ with_only (only (sorts_from items)) ss
after_parenthesised place items ss =
    ap (λ (inner : List Sort). with_only (only inner) ss)
    (sorts-items (hidden-the_row-SortItem-0 items) ∙ ap sorts_from (items_hidden-the_row-SortItem-0 items))
