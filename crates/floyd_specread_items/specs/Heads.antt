-- What stands behind the name of a FUN or PRED up to its body, from the token of a number on, where no bracket is open before it.
--
--   FUN   "(" binders ")" ":" sort "="
--   PRED  "(" binders ")" "="
use Rattle.std.specs.Prelude.{ℕ, List}
use Rattle.floyd_lex.specs.declared.kinds.Punctuator.TheVariants as p
use Rattle.floyd_lex.specs.Token.{TokenList}
use Rattle.floyd_tree_sorts.specs.declared.sorts.Sort.{Sort}
use Rattle.floyd_assert_trees.specs.declared.binder.Binder.{Binder}
use Rattle.floyd_termread_phrases.specs.Reads.{Reads, pure, ◌>>=◌}
use Rattle.floyd_termread_marks.specs.Marks.{mark}
use Rattle.floyd_termread_assertions.specs.Existentials.{binders, sort}
use Rattle.floyd_specread_items.specs.declared.heads.FunHead.{FunHead}

abbrev pub head_of : List Binder → Sort → FunHead
head_of xs s = record { arguments = xs; result = s }

module _ (bytes : List ℕ) (list : TokenList) where
  abbrev pub arguments : Reads (List Binder)
  arguments = do
    _ ← mark bytes list 0 p.OpenParen
    xs ← binders bytes list 1
    _ ← mark bytes list 1 p.CloseParen
    pure xs

  abbrev pub fun_head : Reads FunHead
  fun_head = do
    xs ← arguments
    _ ← mark bytes list 0 p.Colon
    s ← sort bytes list 0
    _ ← mark bytes list 0 p.Equal
    pure (head_of xs s)

  abbrev pub pred_head : Reads (List Binder)
  pred_head = do
    xs ← arguments
    _ ← mark bytes list 0 p.Equal
    pure xs
