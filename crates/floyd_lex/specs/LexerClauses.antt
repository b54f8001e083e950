-- How a lexer keeps what it has cut.
use Rattle.std.specs.Prelude.{◌≡◌, ℕ, ◌<◌, ◌^◌, Bool, true, false, List, length, Option, Some, None}
use Rattle.floyd_lex.specs.declared.cutting.Stand.{Stand}
use Rattle.floyd_lex.specs.declared.kinds.FileKind.{FileKind}
use Rattle.floyd_lex.specs.declared.lead.Flaw.{Flaw}
use Rattle.floyd_lex.specs.declared.lead.Flaw.TheVariants.{OpenComment}
use Rattle.floyd_lex.specs.declared.lexer.Cut.{Cut}
use Rattle.floyd_lex.specs.declared.lexer.Cut.TheVariants as cut
use Rattle.floyd_lex.specs.Cuts.{refusal_of}
use Rattle.floyd_lex.specs.CuttingClauses.{HasCut}
use Rattle.floyd_lex.specs.Lexing.{whole_lines}
use Rattle.floyd_lex.specs.Token.{TokenList, empty_list}

-- the whole lines are cut
pub record IsLexing (kind : FileKind) (bytes : List ℕ) (tokens : TokenList) (end : ℕ) (stand : Stand) : Type 0 where
  pub small : length bytes < 2 ^ 32
  pub lines : end ≡ length (whole_lines bytes)
  pub cut : HasCut kind (whole_lines bytes) 0 (empty_list tokens.file) tokens stand

-- the tokens, or the refusal of the flaw that they end before
abbrev pub cut_as : TokenList → Option (Flaw × ℕ) → List ℕ → Cut
cut_as tokens None bytes = cut.Tokens tokens
cut_as tokens (Some s) bytes = cut.Refused (refusal_of tokens.file bytes s.0 s.1)

-- a comment that may still end
abbrev pub is_open : Flaw → Bool
is_open OpenComment = true
is_open flaw = false
