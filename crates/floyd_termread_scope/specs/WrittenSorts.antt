-- The sort that is written by a row of words. Each word stands before the sorts that it takes, so the row is read from its
-- end, and the sorts that are taken stand on a stack.
use Rattle.std.specs.Prelude.{List, [], ◌∷◌, Option, Some, None}
use Rattle.floyd_tree_sorts.specs.declared.sorts.Sort.{Sort, Z, Val}
use Rattle.floyd_tree_sorts.specs.Sorts.{list_sort, tree_sort, pair_sort}
use Rattle.floyd_termread_trees.specs.declared.words.SortWord.{SortWord}
use Rattle.floyd_termread_trees.specs.declared.words.SortWord.TheVariants as w
use Rattle.floyd_termread_trees.specs.declared.written.SortItem as i

-- the stack after a word; nothing is left where the word takes more than there is
abbrev pub after_list : List Sort → List Sort
after_list [] = []
after_list (s ∷ ss) = list_sort s ∷ ss

abbrev pub after_tree : List Sort → List Sort
after_tree [] = []
after_tree (s ∷ ss) = tree_sort s ∷ ss

abbrev pub after_prod : List Sort → List Sort
after_prod [] = []
after_prod (a ∷ []) = []
after_prod (a ∷ b ∷ ss) = pair_sort a b ∷ ss

abbrev pub after_word : SortWord → List Sort → List Sort
after_word w.Z ss = Z ∷ ss
after_word w.Val ss = Val ∷ ss
after_word w.List ss = after_list ss
after_word w.Tree ss = after_tree ss
after_word w.Prod ss = after_prod ss

-- a row gives one sort
abbrev pub only : List Sort → Option Sort
only [] = None
only (s ∷ []) = Some s
only (s ∷ t ∷ ss) = None

abbrev pub with_only : Option Sort → List Sort → List Sort
with_only None ss = []
with_only (Some s) ss = s ∷ ss

abbrev mutual
  -- the stack after an item: a parenthesis gives one sort
  pub after_item : i.SortItem → List Sort → List Sort
  after_item (i.Word word place) ss = after_word word ss
  after_item (i.Parenthesised' place shape inner) ss = with_only (only (sorts_in inner)) ss

  pub sorts_in : {n : _} → i.Row_of-SortItem n → List Sort
  sorts_in i.end_of-SortItem = []
  sorts_in (i.more_of-SortItem item rest) = after_item item (sorts_in rest)

-- the stack that a row leaves
abbrev pub sorts_from : List i.SortItem → List Sort
sorts_from [] = []
sorts_from (item ∷ rest) = after_item item (sorts_from rest)

-- the sort that is written, unless the row is cut off
abbrev pub written_sort : List i.SortItem → Option Sort
written_sort row = only (sorts_from row)
