-- The calls that an item makes of itself, by the tokens of one of its cases. Each is to be on a part of the first argument: on
-- one of these variables, alone or in parentheses. A call is judged once it was read, up to the parenthesis that closes it.
use Rattle.std.specs.Prelude.{◌≡◌, ℕ, zero, suc, pred, ◌+◌, ◌-◌, ◌==◌, nat_lt, Bool, false, not, ◌&&◌, ◌||◌, if◌then◌else◌, List, length, Option, Some, None, Ok, Err, bytes_eq}
use Rattle.std.specs.List.{list_any}
use Rattle.floyd_text.specs.declared.place.Place.{Place}
use Rattle.floyd_lex.specs.declared.kinds.Punctuator.TheVariants as p
use Rattle.floyd_lex.specs.Token.{Token, TokenList}
use Rattle.floyd_cparse_trees.specs.declared.types.Identifier.{Identifier}
use Rattle.floyd_predicates.specs.WellFormed.{is_before, not_structural}
use Rattle.floyd_termread_tokens.specs.SeenClauses.{token_at}
use Rattle.floyd_termread_tokens.specs.Tokens.{is_closing, is_mark, is_name, is_opening}
use Rattle.floyd_termread_phrases.specs.Reads.{Answer, Reads}
use Rattle.floyd_termread_marks.specs.Marks.{is_next, place_at}
use Rattle.floyd_specread_words.specs.Calls.{is_call}

-- the brackets that are open behind a token, where so many are before it
abbrev pub open_behind : Token → ℕ → ℕ
open_behind t n = if is_opening t then n + 1 else if is_closing t then pred n else n

-- one of these variables
abbrev pub is_part : List (List ℕ) → Token → Bool
is_part parts t = is_name t && list_any (bytes_eq t.text) parts

-- a token that stands before the place
abbrev pub stands_before : Place → Token → Bool
stands_before place t = is_before t.place place

module _ (bytes : List ℕ) (list : TokenList) where
  -- how many tokens from one on are so, of so many
  abbrev pub run_of : (Token → Bool) → ℕ → ℕ → ℕ
  run_of test zero at = 0
  run_of test (suc n) at = if is_next bytes list test at then suc (run_of test n (at + 1)) else 0

  abbrev pub run : (Token → Bool) → ℕ → ℕ
  run test at = run_of test (length list.items - at) at

  -- so many parentheses close there, and behind them the argument ends
  abbrev pub ends_argument : ℕ → ℕ → Bool
  ends_argument k at = let closing = run (is_mark p.CloseParen) at in nat_lt k closing || (closing == k && is_next bytes list (is_mark p.Comma) (at + k))

  -- the first argument is one of the variables
  abbrev pub is_on_part : List (List ℕ) → ℕ → Bool
  is_on_part parts at = let k = run (is_mark p.OpenParen) at in is_next bytes list (is_part parts) (at + k) && ends_argument k (at + k + 1)

  -- whether a bracket is closed among so many tokens from one on, where so many are open before it
  abbrev pub closes : ℕ → ℕ → ℕ → Bool
  closes zero count at = false
  closes (suc n) count at = let behind = open_behind (token_at bytes list at) count in behind == 0 || closes n behind (at + 1)

  -- whether the bracket that opens there is closed before the token of that number
  abbrev pub is_closed : ℕ → ℕ → Bool
  is_closed to at = closes (to - at) 0 at

  module _ (own : List ℕ) (parts : List (List ℕ)) (to : ℕ) where
    -- a call that was read and is on no part
    abbrev pub is_wrong : ℕ → Bool
    is_wrong at = is_call bytes list own at && (is_closed to (at + 1) && not (is_on_part parts (at + 2)))

    -- the first of them, among so many tokens from one on
    abbrev pub first_wrong : ℕ → ℕ → Option ℕ
    first_wrong zero at = None
    first_wrong (suc n) at = if is_wrong at then Some at else first_wrong n (at + 1)

    abbrev pub wrong_from : ℕ → Option ℕ
    wrong_from at = first_wrong (to - at) at

  -- where what was read from one token on ends: behind it, or before the token that was refused
  abbrev pub end_of : {A : Type 0} → ℕ → Answer A → ℕ
  end_of start (Ok read) = read.1
  end_of start (Err refusal) = start + run (stands_before refusal.place) start

  -- a wrong call is refused at its name
  abbrev pub unless_wrong : {A : Type 0} → Identifier → Option ℕ → Answer A → Answer A
  unless_wrong own None read = read
  unless_wrong own (Some at) read = Err (not_structural (place_at bytes list at) own.name)

  abbrev pub judged : {A : Type 0} → Identifier → List (List ℕ) → ℕ → Answer A → Answer A
  judged own parts start read = unless_wrong own (wrong_from own.name parts (end_of start read) start) read

  -- what is read so, with the calls in it
  abbrev pub structural : {A : Type 0} → Identifier → List (List ℕ) → Reads A → Reads A
  structural {A} own parts reads at answer = (read : Answer A) × reads at read × (answer ≡ judged own parts at read)
