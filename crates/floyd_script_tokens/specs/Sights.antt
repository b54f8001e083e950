-- Tokens of a script as its grammar sees them.
use Rattle.std.specs.Prelude.{ℕ, ◌-◌, ◌==◌, Bool, true, false, ◌&&◌, not, List, [], ◌∷◌, length, slice_index, Result, Ok, Err}
use Rattle.std.specs.Str.{bytes_eq}
use Rattle.floyd_lex.specs.declared.kinds.Punctuator.{Punctuator}
use Rattle.floyd_lex.specs.declared.kinds.TokenKind.{TokenKind}
use Rattle.floyd_lex.specs.declared.kinds.TokenKind.TheVariants as k
use Rattle.floyd_lex.specs.Token.{Token, TokenList, tokens_in}
use Rattle.floyd_cparse_tokens.specs.Tokens.{is_mark_kind, is_name_kind}
use Rattle.floyd_termread_tokens.specs.Words.{is_free, is_hypothesis}

-- a token with its number among those of its script
pub record Sight : Type 0 where
  pub at : ℕ
  pub token : Token

-- the last tokens of a script that has so many
abbrev pub sights_in : ℕ → List Token → List Sight
sights_in count [] = []
sights_in count (t ∷ ts) = record { at = count - length (t ∷ ts); token = t } ∷ sights_in count ts

abbrev pub sights_of : List ℕ → TokenList → List Sight
sights_of bytes list = sights_in (length list.items) (tokens_in bytes list)

abbrev pub is_mark : Punctuator → Sight → Bool
is_mark mark s = is_mark_kind mark s.token.kind

abbrev pub is_name : Sight → Bool
is_name s = is_name_kind s.token.kind

-- a name with this text
abbrev pub is_word : List ℕ → Sight → Bool
is_word word s = is_name s && bytes_eq s.token.text word

abbrev pub is_number_kind : TokenKind → Bool
is_number_kind (k.Literal of value) = true
is_number_kind kind = false

abbrev pub is_number : Sight → Bool
is_number s = is_number_kind s.token.kind

-- `H` and digits that do not begin with 0
abbrev pub names_hypothesis : Sight → Bool
names_hypothesis s = is_name s && is_hypothesis s.token.text && not (slice_index s.token.text 1 == 48)

-- a name that a variable may have
abbrev pub is_given : Sight → Bool
is_given s = is_name s && is_free s.token.text

-- a name, and no hypothesis
abbrev pub names_other : Sight → Bool
names_other s = is_name s && not (is_hypothesis s.token.text)

-- The causes for which a token is refused. Of two at one token the greater goes first.
abbrev pub unexpected : ℕ
unexpected = 0

abbrev pub unknown : ℕ
unknown = 1

abbrev pub too_deep : ℕ
too_deep = 2

-- the token is taken, or it is not wanted
abbrev pub wants : Bool → Result (Unit {0}) ℕ
wants true = Ok tt
wants false = Err unexpected

abbrev pub mark : Punctuator → Sight → Result (Unit {0}) ℕ
mark m s = wants (is_mark m s)
