-- The grammar of sorts and of the binders of a quantifier.
--
--   sort    = "Z" | "val" | "list" sort | "tree" sort | "prod" sort sort | "(" sort ")"
--   binders = name ":" sort { "," name ":" sort }
--
-- A sort is read as the row of its words: each operator stands before the sorts that it takes, so a row is whole where no
-- sort is wanted any more. An operator of sorts counts as deep only for what stands directly behind a run of them.
--
-- Where the text is cut off, each sort that is still wanted is read as `Z`, and a name, a mark or a closing parenthesis that
-- is missing as if it stood there: what is read of such binders is not looked at.
use Rattle.std.specs.Prelude.{ℕ, zero, suc, ◌+◌, pred, ◌==◌, Bool, true, false, not, ◌&&◌, if◌then◌else◌, Option, Some, None, Result, Ok, Err, List, [], ◌∷◌, ◌++◌}
use Rattle.floyd_text.specs.declared.place.Place.{Place}
use Rattle.floyd_lex.specs.declared.kinds.Punctuator.TheVariants as p
use Rattle.floyd_lex.specs.Token.{Token}
use Rattle.floyd_grammar.specs.Phrase.{Phrase, one, pure, never, ◌>>=◌, ◌>>◌, folded}
use Rattle.floyd_cparse_trees.specs.declared.types.Identifier.{Identifier}
use Rattle.floyd_cparse_tokens.specs.Tokens.{found_or, is_type_text, with_name}
use Rattle.floyd_termread_trees.specs.declared.words.SortWord.{SortWord}
use Rattle.floyd_termread_trees.specs.declared.words.SortWord.TheVariants as s
use Rattle.floyd_termread_trees.specs.declared.words.Word.{Word}
use Rattle.floyd_termread_trees.specs.declared.words.Word.TheVariants as w
use Rattle.floyd_termread_trees.specs.declared.written.Binder.{Binder}
use Rattle.floyd_termread_trees.specs.declared.written.SortItem.{SortItem}
use Rattle.floyd_termread_trees.specs.declared.written.SortItem as written
use Rattle.floyd_termread_trees.specs.declared.written.SortItem.TheVariants as item
use Rattle.floyd_termread_tokens.specs.Tokens.{unexpected, is_mark, is_name, identifier_of, place_if, word_at, blame, without_room, demand, unless_cut}
use Rattle.floyd_termread_tokens.specs.Words.{is_free}
use Rattle.floyd_termread_sorts.specs.declared.values.Binders.{Binders}
use Rattle.floyd_termread_sorts.specs.declared.values.SortParts.{SortParts}
use Rattle.floyd_termread_sorts.specs.declared.values.SortStart.{SortStart}
use Rattle.floyd_termread_sorts.specs.declared.values.SortStart.TheVariants as start

-- a row of a sort: how many sorts it still wants, and the operators that stand at its end
abbrev pub no_sort : SortParts
no_sort = record { items = []; wanted = 1; run = 0 }

abbrev pub wanted_behind : SortItem → ℕ → ℕ
wanted_behind (written.Word s.List place) n = n
wanted_behind (written.Word s.Tree place) n = n
wanted_behind (written.Word s.Prod place) n = n + 1
wanted_behind whole n = pred n

abbrev pub run_behind : SortItem → ℕ → ℕ
run_behind (written.Word s.List place) n = n + 1
run_behind (written.Word s.Tree place) n = n + 1
run_behind (written.Word s.Prod place) n = n + 1
run_behind whole n = 0

abbrev pub plus_sort : SortParts → SortItem → SortParts
plus_sort parts x = record { items = parts.items ++ x ∷ []; wanted = wanted_behind x parts.wanted; run = run_behind x parts.run }

-- a word of sorts, or a parenthesis
abbrev pub start_of_word : Place → Option Word → Option SortStart
start_of_word place (Some (w.Sort word)) = Some (start.Word word place)
start_of_word place (Some word) = None
start_of_word place None = None

abbrev pub sort_start : Token → Option SortStart
sort_start t = if is_mark p.OpenParen t then Some (start.Open t.place) else start_of_word t.place (word_at t)

abbrev pub wants_none : SortParts → Bool
wants_none parts = parts.wanted == 0

abbrev pub sort_token : ℕ → ℕ → SortParts → Token → Result SortStart ℕ
sort_token room count parts t = if wants_none parts then Err unexpected else unless_cut t (start.Word s.Z t.place) (demand room (count + parts.run) t (sort_start t))

abbrev pub sort_end : ℕ → ℕ → Token → Result Place ℕ
sort_end room count t = unless_cut t t.place (found_or (blame room count t) (place_if (is_mark p.CloseParen t) t))

-- a row, if it is whole
abbrev pub whole_row : Bool → List SortItem → Phrase Token (List SortItem)
whole_row true items = pure items
whole_row false items = never unexpected

-- `room` is left here, and `inner` has sorts one bracket further in, by the operators before them.
module _ (room : ℕ) (inner : ℕ → Phrase Token (List SortItem)) where
  -- "(" sort ")"
  abbrev pub parenthesised : ℕ → Place → Phrase Token SortItem
  parenthesised count place = do
    items ← inner count
    _ ← one (sort_end (pred room) count)
    pure (item.Parenthesised place items)

  abbrev pub after_sort_start : ℕ → SortStart → Phrase Token SortItem
  after_sort_start count (start.Word word place) = pure (item.Word word place)
  after_sort_start count (start.Open place) = parenthesised count place

  abbrev pub sort_item : ℕ → SortParts → Phrase Token SortItem
  sort_item count parts = one (sort_token room count parts) >>= after_sort_start count

  -- a row that is whole
  abbrev pub finish_sort : SortParts → Phrase Token (List SortItem)
  finish_sort parts = whole_row (wants_none parts) parts.items

  abbrev pub sort : ℕ → Phrase Token (List SortItem)
  sort count = folded plus_sort (sort_item count) no_sort >>= finish_sort

-- Sorts where `n` less one is left: none where nothing is.
unfoldable pub sorts : ℕ → ℕ → Phrase Token (List SortItem)
sorts zero count = one (λ t. Err (without_room count t))
sorts (suc room) count = sort room (sorts room) count

-- Binders. No two of one list have one name.
abbrev pub fresh_name : List (List ℕ) → Token → Option Identifier
fresh_name names t = if is_name t && is_free t.text && not (is_type_text names t.text) then Some (identifier_of t) else None

abbrev pub binder_name : ℕ → ℕ → List (List ℕ) → Token → Result Identifier ℕ
binder_name room depth names t = unless_cut t (identifier_of t) (demand room depth t (fresh_name names t))

abbrev pub colon_token : ℕ → ℕ → Token → Result Place ℕ
colon_token room count t = unless_cut t t.place (demand room count t (place_if (is_mark p.Colon t) t))

abbrev pub comma_token : Token → Result Place ℕ
comma_token t = found_or unexpected (place_if (is_mark p.Comma t) t)

-- what goes on is refused, if at all, there
abbrev pub dot_token : ℕ → ℕ → Token → Result Place ℕ
dot_token room count t = unless_cut t t.place (found_or (if is_mark p.Comma t then unexpected else blame room count t) (place_if (is_mark p.Dot t) t))

abbrev pub plus_binder : Binders → Binder → Binders
plus_binder all x = record { items = all.items ++ x ∷ []; names = with_name (Some x.name.name) all.names }

abbrev pub no_binders : Binders
no_binders = record { items = []; names = [] }

abbrev pub first_binder : Binder → Binders
first_binder x = plus_binder no_binders x

abbrev pub binder_of : Identifier → List SortItem → Binder
binder_of name sort = record { name = name; sort = sort }

module _ (room count : ℕ) where
  -- name ":" sort
  abbrev pub binder : ℕ → List (List ℕ) → Phrase Token Binder
  binder depth names = do
    name ← one (binder_name room depth names)
    _ ← one (colon_token room count)
    sort ← sorts (suc room) count
    pure (binder_of name sort)

  -- The quantifier counts for the first name, which stands directly behind it.
  abbrev pub binders : ℕ → Phrase Token Binders
  binders depth = binder depth [] >>= λ first. folded plus_binder (λ all. one comma_token >> binder count all.names) (first_binder first)

  -- binders "."
  abbrev pub quantified : ℕ → Phrase Token (List Binder)
  quantified depth = do
    all ← binders depth
    _ ← one (dot_token room count)
    pure all.items
