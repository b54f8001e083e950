-- A file that is cut into tokens while it comes in pieces.
use Rattle.std.specs.Prelude.{◌≡◌, ℕ, ◌-◌, List, length, map, take, Result, Ok, Err}
use Rattle.std.specs.List.{suffix_len}
use Rattle.floyd_text.specs.declared.refusal.Refusal.{Refusal}
use Rattle.floyd_text.specs.Place.{is_other, place_at}
use Rattle.floyd_lex.specs.declared.kinds.FileKind.{FileKind}
use Rattle.floyd_lex.specs.declared.kinds.FileKind.TheVariants.{Source, Spec, Script}
use Rattle.floyd_lex.specs.declared.lexer.Cut.{Cut}
use Rattle.floyd_lex.specs.declared.lexer.Cut.TheVariants as cut
use Rattle.floyd_lex.specs.Cuts.{Cuts, Outcome, IsCut, token_limit}
use Rattle.floyd_lex.specs.Token.{TokenList, placed}

-- what a lexer stands for: the kind and the number of its file, and the bytes so far
pub record Lexing : Type 0 where
  pub kind : FileKind
  pub file : ℕ
  pub taken : List ℕ

-- the place of a kind of file among the kinds
abbrev pub number_of_kind : FileKind → ℕ
number_of_kind Source = 0
number_of_kind Spec = 1
number_of_kind Script = 2

-- the bytes up to and with their last line feed
abbrev pub whole_lines : List ℕ → List ℕ
whole_lines bytes = take (length bytes - suffix_len is_other bytes) bytes

-- These are the tokens of the whole lines so far, up to the first refusal in them, if there is one.
pub record AreSettled (lexing : Lexing) (list : TokenList) : Type 0 where
  pub outcome : Outcome
  pub cut : Cuts lexing.kind (whole_lines lexing.taken) token_limit 0 outcome
  pub same : list ≡ record { file = lexing.file; items = map (placed (place_at lexing.file (whole_lines lexing.taken))) outcome.pieces }

-- All bytes are cut so.
abbrev pub IsCutInto : Lexing → Cut → Type 0
IsCutInto lexing (cut.Tokens list) = IsCut lexing.kind lexing.file lexing.taken (Ok list)
IsCutInto lexing (cut.Refused refusal) = IsCut lexing.kind lexing.file lexing.taken (Err refusal)

abbrev pub of_result : Result TokenList Refusal → Cut
of_result (Ok list) = cut.Tokens list
of_result (Err refusal) = cut.Refused refusal
