-- Readers of sorts and binders, of the shape of their grammar. They decide by the next token.
use Rattle.std.specs.Prelude.{ℕ, zero, suc, pred, Bool, true, false, not, Err, List, []}
use Rattle.floyd_text.specs.declared.place.Place.{Place}
use Rattle.floyd_lex.specs.declared.kinds.Punctuator.TheVariants as p
use Rattle.floyd_lex.specs.Token.{Token}
use Rattle.floyd_grammar.specs.ParseClauses.{Parser, one, pure, never, ◌>>=◌, ◌>>◌, folded}
use Rattle.floyd_termread_trees.specs.declared.written.Binder.{Binder}
use Rattle.floyd_termread_trees.specs.declared.written.SortItem.{SortItem}
use Rattle.floyd_termread_trees.specs.declared.written.SortItem.TheVariants as item
use Rattle.floyd_termread_tokens.specs.Tokens.{unexpected, is_mark, without_room}
use Rattle.floyd_termread_sorts.specs.declared.values.Binders.{Binders}
use Rattle.floyd_termread_sorts.specs.declared.values.SortParts.{SortParts}
use Rattle.floyd_termread_sorts.specs.declared.values.SortStart.{SortStart}
use Rattle.floyd_termread_sorts.specs.declared.values.SortStart.TheVariants as start
use Rattle.floyd_termread_sorts.specs.Sorts.{run_behind, no_sort, plus_sort, wants_none, sort_token, sort_end, binder_name, colon_token, comma_token, dot_token, plus_binder, first_binder, binder_of}

-- the operators at the end of a row behind what begins so
abbrev pub run_at : SortStart → ℕ → ℕ
run_at (start.Word word place) n = run_behind (item.Word word place) n
run_at (start.Open place) n = 0

-- a sort is still wanted
abbrev pub wants_more : SortParts → Token → Bool
wants_more parts t = not (wants_none parts)

-- a row, if it is whole
abbrev pub row_read : Bool → List SortItem → Parser Token (List SortItem)
row_read true items = pure items
row_read false items = never unexpected

module _ (room : ℕ) (inner : ℕ → Parser Token (List SortItem)) where
  -- "(" sort ")"
  unfoldable pub parenthesised : ℕ → Place → Parser Token SortItem
  parenthesised count place = do
    items ← inner count
    _ ← one (sort_end (pred room) count)
    pure (item.Parenthesised place items)

  unfoldable pub after_sort_start : ℕ → SortStart → Parser Token SortItem
  after_sort_start count (start.Word word place) = pure (item.Word word place)
  after_sort_start count (start.Open place) = parenthesised count place

  unfoldable pub sort_item : ℕ → SortParts → Parser Token SortItem
  sort_item count parts = one (sort_token room count parts) >>= after_sort_start count

  unfoldable pub finish_sort : SortParts → Parser Token (List SortItem)
  finish_sort parts = row_read (wants_none parts) parts.items

  unfoldable pub sort_parts : ℕ → Parser Token SortParts
  sort_parts count = folded wants_more plus_sort (sort_item count) no_sort

  unfoldable pub sort : ℕ → Parser Token (List SortItem)
  sort count = sort_parts count >>= finish_sort

-- Sorts where `n` less one is left: none where nothing is.
unfoldable pub sorts : ℕ → ℕ → Parser Token (List SortItem)
sorts zero count = one (λ t. Err (without_room count t))
sorts (suc room) count = sort room (sorts room) count

module _ (room count : ℕ) where
  -- name ":" sort
  unfoldable pub binder : ℕ → List (List ℕ) → Parser Token Binder
  binder depth names = do
    name ← one (binder_name room depth names)
    _ ← one (colon_token room count)
    sort ← sorts (suc room) count
    pure (binder_of name sort)

  abbrev pub next_binder : Binders → Parser Token Binder
  next_binder all = one comma_token >> binder count all.names

  unfoldable pub binders : ℕ → Parser Token Binders
  binders depth = binder depth [] >>= λ first. folded (λ _. is_mark p.Comma) plus_binder next_binder (first_binder first)

  -- binders "."
  unfoldable pub quantified : ℕ → Parser Token (List Binder)
  quantified depth = do
    all ← binders depth
    _ ← one (dot_token room count)
    pure all.items
