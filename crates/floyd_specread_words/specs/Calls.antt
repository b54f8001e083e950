-- The places at which a name is called: where it stands before an opening parenthesis. In an item that defines it, these are
-- the item's calls of itself, in the order of the text.
use Rattle.std.specs.Prelude.{ℕ, zero, suc, ◌+◌, ◌-◌, Bool, ◌&&◌, if◌then◌else◌, List, [], ◌∷◌, ◌++◌, bytes_eq}
use Rattle.floyd_text.specs.declared.place.Place.{Place}
use Rattle.floyd_lex.specs.declared.kinds.Punctuator.TheVariants as p
use Rattle.floyd_lex.specs.Token.{Token, TokenList}
use Rattle.floyd_termread_tokens.specs.Tokens.{is_mark, is_name}
use Rattle.floyd_termread_marks.specs.Marks.{is_next, place_at}

abbrev pub is_name_of : List ℕ → Token → Bool
is_name_of name t = is_name t && bytes_eq t.text name

module _ (bytes : List ℕ) (list : TokenList) (name : List ℕ) where
  abbrev pub is_call : ℕ → Bool
  is_call at = is_next bytes list (is_name_of name) at && is_next bytes list (is_mark p.OpenParen) (at + 1)

  abbrev pub call_at : ℕ → List Place
  call_at at = if is_call at then place_at bytes list at ∷ [] else []

  -- among so many tokens from one on
  abbrev pub calls_from : ℕ → ℕ → List Place
  calls_from from zero = []
  calls_from from (suc n) = calls_from from n ++ call_at (from + n)

  -- from the token of a number up to another, without it
  abbrev pub calls_between : ℕ → ℕ → List Place
  calls_between from to = calls_from from (to - from)
