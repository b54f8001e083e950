-- Tokens as contracts see them.
use Rattle.std.specs.Prelude.{ℕ, ◌-◌, List, [], ◌∷◌, ◌++◌, map, take, drop}
use Rattle.floyd_text.specs.declared.place.Place.{Place}
use Rattle.floyd_lex.specs.declared.kinds.TokenKind.{TokenKind}

-- what a token is, and its span, from the byte at `start` to the one before `end`
pub record Piece : Type 0 where
  pub kind : TokenKind
  pub start : ℕ
  pub end : ℕ

-- the same with the place of its first byte
pub record Lexeme : Type 0 where
  pub kind : TokenKind
  pub start : ℕ
  pub end : ℕ
  pub place : Place

-- with the place that its first byte has
abbrev pub placed : (ℕ → Place) → Piece → Lexeme
placed place p = record { kind = p.kind; start = p.start; end = p.end; place = place p.start }

-- the tokens of a file, or an unbroken part of them, with the file's number
pub record TokenList : Type 0 where
  pub file : ℕ
  pub items : List Lexeme

abbrev pub empty_list : ℕ → TokenList
empty_list file = record { file = file; items = [] }

abbrev pub with_last : TokenList → Lexeme → TokenList
with_last list x = record { file = list.file; items = list.items ++ x ∷ [] }

-- the tokens from `from` on, those before `to`
abbrev pub part_of : TokenList → ℕ → ℕ → TokenList
part_of list from to = record { file = list.file; items = take (to - from) (drop from list.items) }

-- a token as a grammar sees it, with its text
pub record Token : Type 0 where
  pub kind : TokenKind
  pub text : List ℕ
  pub start : ℕ
  pub end : ℕ
  pub place : Place

-- the bytes of a span
abbrev pub text_of : List ℕ → Lexeme → List ℕ
text_of bytes x = take (x.end - x.start) (drop x.start bytes)

abbrev pub token_of : List ℕ → Lexeme → Token
token_of bytes x = record { kind = x.kind; text = text_of bytes x; start = x.start; end = x.end; place = x.place }

-- the tokens with the texts that they have in the file's bytes
abbrev pub tokens_in : List ℕ → TokenList → List Token
tokens_in bytes list = map (token_of bytes) list.items
