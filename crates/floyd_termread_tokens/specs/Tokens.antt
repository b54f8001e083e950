-- Tokens of specifications and scripts as the grammar of terms and formulas sees them, and for what cause one is refused.
--
-- Depth is two numbers. `room` is 200 less the brackets that a token stands inside. It is an argument of a production,
-- goes down by one with each bracket, and where nothing is left nothing reads: this is what the recursion of the grammar
-- goes down by. `count` is what else counts before a token: the operators so far in the full term or formula, which do
-- not go away when a bracket closes, and the prefix operators directly before the token. A token is too deep where
-- `count`, and one for an opening bracket, is more than `room`; then it is taken nowhere.
--
-- A refused token has the greatest of the causes for which it is refused by what might stand there. What may stand
-- somewhere blames only what it would take but for its depth (`offer`); what must stand there, or follow, blames every
-- token that is too deep (`demand`, `found_or`).
use Rattle.std.specs.Prelude.{ℕ, ◌+◌, nat_lt, Bool, true, false, ◌&&◌, ◌||◌, if◌then◌else◌, Option, Some, None, Result, Ok, Err, List, [], ◌∷◌, drop}
use Rattle.floyd_text.specs.declared.place.Place.{Place}
use Rattle.floyd_lex.specs.declared.kinds.TokenKind.{TokenKind}
use Rattle.floyd_lex.specs.declared.kinds.TokenKind.TheVariants as k
use Rattle.floyd_lex.specs.declared.kinds.Keyword.TheVariants as word
use Rattle.floyd_lex.specs.declared.kinds.Punctuator.{Punctuator}
use Rattle.floyd_lex.specs.declared.kinds.Punctuator.TheVariants as p
use Rattle.floyd_lex.specs.Token.{Token, TokenList, tokens_in}
use Rattle.floyd_cparse_trees.specs.declared.types.Identifier.{Identifier}
use Rattle.floyd_cparse_tokens.specs.Tokens.{is_mark_kind, is_name_kind, number, found_or}
use Rattle.floyd_termread_trees.specs.declared.words.Word.{Word}
use Rattle.floyd_termread_tokens.specs.Words.{word_of, is_free}

-- The end of a text that is cut off. It is seen in place of each token from there on, for as often as one is looked at. No
-- other token of a specification or a script is a keyword.
abbrev pub is_cut_kind : TokenKind → Bool
is_cut_kind (k.Keyword text) = true
is_cut_kind rest = false

abbrev pub is_cut : Token → Bool
is_cut t = is_cut_kind t.kind

abbrev pub cut_kind : TokenKind
cut_kind = k.Keyword word.Goto

abbrev pub cut : Token
cut = record { kind = cut_kind; text = []; start = 0; end = 0; place = record { file = 0; line = 0; column = 0 } }

abbrev pub is_mark : Punctuator → Token → Bool
is_mark mark t = is_mark_kind mark t.kind

abbrev pub is_name : Token → Bool
is_name t = is_name_kind t.kind

abbrev pub identifier_of : Token → Identifier
identifier_of t = record { name = t.text; place = t.place }

abbrev pub place_if : Bool → Token → Option Place
place_if true t = Some t.place
place_if false t = None

-- a name of the source, which may be a word
abbrev pub given_name : Token → Option Identifier
given_name t = if is_name t then Some (identifier_of t) else None

-- a name that is no word
abbrev pub free_name : Token → Option Identifier
free_name t = if is_name t && is_free t.text then Some (identifier_of t) else None

-- the word that a token is, if it is one
abbrev pub word_at : Token → Option Word
word_at t = if is_name t then word_of t.text else None

-- The causes. Of two at one token the greater goes first.
abbrev pub unexpected : ℕ
unexpected = 0

abbrev pub too_deep : ℕ
too_deep = 1

-- An opening bracket counts itself, and a closing one does not count its own pair.
abbrev pub is_opening : Token → Bool
is_opening t = is_mark p.OpenParen t || is_mark p.OpenBracket t

abbrev pub is_closing : Token → Bool
is_closing t = is_mark p.CloseParen t || is_mark p.CloseBracket t

abbrev pub is_deep : ℕ → ℕ → Token → Bool
is_deep room count t = nat_lt (room + number (is_closing t)) (count + number (is_opening t))

-- what is missing where the text is cut off, and what is found elsewhere
abbrev pub unless_cut : {A : Type 0} → Token → A → Result A ℕ → Result A ℕ
unless_cut t missing found = if is_cut t then Ok missing else found

-- for what a token is refused that is not wanted
abbrev pub blame : ℕ → ℕ → Token → ℕ
blame room count t = if is_deep room count t then too_deep else unexpected

-- .. and where no room at all is left
abbrev pub without_room : ℕ → Token → ℕ
without_room count t = if nat_lt count (number (is_closing t)) then unexpected else too_deep

-- what may stand here is taken unless it is too deep, and nothing else is blamed
abbrev pub offer : {A : Type 0} → ℕ → ℕ → Token → Option A → Result A ℕ
offer room count t None = Err unexpected
offer room count t (Some x) = if is_deep room count t then Err too_deep else Ok x

-- what must stand here is taken unless it is too deep, and everything else is blamed
abbrev pub demand : {A : Type 0} → ℕ → ℕ → Token → Option A → Result A ℕ
demand room count t None = Err (blame room count t)
demand room count t (Some x) = if is_deep room count t then Err too_deep else Ok x
