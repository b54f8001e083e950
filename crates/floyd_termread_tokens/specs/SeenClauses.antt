-- Tokens as the code sees them.
use Rattle.std.specs.Prelude.{ℕ, ◌-◌, List, [], ◌∷◌, ◌++◌, take, drop, replicate, Result, Option, Some, None}
use Rattle.std.specs.Prelude as base
use Rattle.floyd_lex.specs.declared.kinds.TokenKind.{TokenKind}
use Rattle.floyd_lex.specs.Token.{Token, TokenList, tokens_in}
use Rattle.floyd_grammar.specs.ParseClauses.{Parser, taken}
use Rattle.floyd_termread_tokens.specs.Tokens.{cut, cut_kind}

-- behind the last token a text is cut off
abbrev pub first_of : List Token → Token
first_of [] = cut
first_of (t ∷ ts) = t

-- the tokens from `at` on
abbrev pub tokens_from : List ℕ → TokenList → ℕ → List Token
tokens_from bytes list at = drop at (tokens_in bytes list)

-- those before the one of number `end`, and then the end of a text that is cut off there, so many times
abbrev pub tokens_until : List ℕ → TokenList → ℕ → ℕ → ℕ → List Token
tokens_until bytes list at end cuts = take (end - at) (tokens_from bytes list at) ++ replicate cuts cut

abbrev pub kind_or_cut : Option TokenKind → TokenKind
kind_or_cut (Some kind) = kind
kind_or_cut None = cut_kind

-- the token at `at`
abbrev pub token_at : List ℕ → TokenList → ℕ → Token
token_at bytes list at = first_of (tokens_from bytes list at)

-- what the next token is read as
abbrev pub take_as : {A : Type 0} → Result A ℕ → Parser Token A
take_as found [] = base.Err record { left = 0; cause = 0 }
take_as found (t ∷ ts) = taken ts found
