-- Sorts, and binders with their sorts.
--
--   sort         = "Z" | "val" | "list" sort | "tree" sort | "prod" sort sort | "(" sort ")"
--   binders      = name ":" sort { "," name ":" sort }
--   existentials = ["EX" binders "."]
--
-- What was read whole has a sort; else it would be refused where it begins.
use Rattle.std.specs.Prelude.{ℕ, List, [], ◌∷◌, Option, Some, None, option_map}
use Rattle.floyd_text.specs.declared.code.Code.TheVariants as c
use Rattle.floyd_text.specs.declared.place.Place.{Place}
use Rattle.floyd_text.specs.declared.refusal.Refusal.{Refusal}
use Rattle.floyd_text.specs.declared.refusal.Shown.TheVariants.{Nothing}
use Rattle.floyd_text.specs.Refusals.{refusal_at}
use Rattle.floyd_lex.specs.declared.kinds.Punctuator.TheVariants as p
use Rattle.floyd_lex.specs.Token.{TokenList}
use Rattle.floyd_tree_sorts.specs.declared.sorts.Sort.{Sort}
use Rattle.floyd_assert_trees.specs.declared.binder.Binder.{Binder}
use Rattle.floyd_termread_trees.specs.declared.written.Binder as written
use Rattle.floyd_termread_trees.specs.declared.written.SortItem.{SortItem}
use Rattle.floyd_termread_binders.specs.Binders.{IsSort, IsBinders}
use Rattle.floyd_termread_scope.specs.WrittenSorts.{written_sort}
use Rattle.floyd_termread_phrases.specs.Reads.{Reads, pure, ◌>>=◌}
use Rattle.floyd_termread_marks.specs.declared.words.AssertionWord.TheVariants as a
use Rattle.floyd_termread_marks.specs.Marks.{if_next, is_word, mark, word, place_at}
use Rattle.floyd_termread_parts.specs.Objects.{given}

abbrev pub binder_of : written.Binder → Sort → Binder
binder_of b s = record { name = b.name.name; sort = s }

abbrev pub with_sort : written.Binder → Option Binder
with_sort b = option_map (binder_of b) (written_sort b.sort)

abbrev pub put_first : Option Binder → Option (List Binder) → Option (List Binder)
put_first None xs = None
put_first (Some x) xs = option_map (λ (rest : List Binder). x ∷ rest) xs

abbrev pub with_sorts : List written.Binder → Option (List Binder)
with_sorts [] = Some []
with_sorts (b ∷ bs) = put_first (with_sort b) (with_sorts bs)

abbrev pub unreadable : Place → Refusal
unreadable place = refusal_at c.UnexpectedInSpec place Nothing

module _ (bytes : List ℕ) (list : TokenList) (depth : ℕ) where
  -- the words of a sort
  abbrev pub sort_row : Reads (List SortItem)
  sort_row at answer = IsSort bytes list at depth answer

  abbrev pub sort : Reads Sort
  sort at = (sort_row >>= λ row. given (unreadable (place_at bytes list at)) (written_sort row)) at

  -- binders as they are written
  abbrev pub binder_rows : Reads (List written.Binder)
  binder_rows at answer = IsBinders bytes list at depth answer

  abbrev pub binders : Reads (List Binder)
  binders at = (binder_rows >>= λ rows. given (unreadable (place_at bytes list at)) (with_sorts rows)) at

  -- "EX" binders "."
  abbrev pub existentials_behind : Reads (List Binder)
  existentials_behind = do
    _ ← word bytes list depth a.Exists
    xs ← binders
    _ ← mark bytes list depth p.Dot
    pure xs

  abbrev pub existentials : Reads (List Binder)
  existentials = if_next bytes list (is_word a.Exists) existentials_behind (pure [])
