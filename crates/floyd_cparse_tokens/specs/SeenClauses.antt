-- Tokens as the code sees them.
use Rattle.std.specs.Prelude.{ℕ, suc, List, [], ◌∷◌, length, drop, slice_get, ◌≡◌, Result, Option, Some}
use Rattle.std.specs.Prelude as base
use Rattle.floyd_lex.specs.declared.kinds.TokenKind.TheVariants as k
use Rattle.floyd_lex.specs.Token.{Token, TokenList, tokens_in}
use Rattle.floyd_grammar.specs.ParseClauses.{Parser, taken}
use Rattle.floyd_cparse_tokens.specs.Tokens.{Sight, sights}

-- no token, which is never looked at
abbrev pub nowhere : Sight
nowhere = record { token = record { kind = k.Name; text = []; start = 0; end = 0; place = record { file = 0; line = 0; column = 0 } }; behind = [] }

abbrev pub first_of : List Token → Sight
first_of [] = nowhere
first_of (t ∷ ts) = record { token = t; behind = ts }

-- the token at `at`
abbrev pub sight_at : List ℕ → TokenList → ℕ → Sight
sight_at bytes list at = first_of (drop at (tokens_in bytes list))

-- the tokens from `at` on
abbrev pub sights_from : List ℕ → TokenList → ℕ → List Sight
sights_from bytes list at = sights (drop at (tokens_in bytes list))

-- what the next token is read as
abbrev pub take_as : {A : Type 0} → Result A ℕ → Parser Sight A
take_as found [] = base.Err record { left = 0; cause = 0 }
take_as found (s ∷ ts) = taken ts found
