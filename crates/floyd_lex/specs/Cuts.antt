-- How a file is cut into tokens, and the first refusal.
use Rattle.std.specs.Prelude.{◌≡◌, ℕ, zero, suc, ◌+◌, Bool, true, false, nat_lt, List, [], ◌∷◌, map, take, drop, Option, Some, None, Result, Ok, Err}
use Rattle.floyd_text.specs.declared.code.Code.{Code}
use Rattle.floyd_text.specs.declared.code.Code.TheVariants as c
use Rattle.floyd_text.specs.declared.refusal.Halt.{Halt}
use Rattle.floyd_text.specs.declared.refusal.Halt.TheVariants.{Refused, Memory}
use Rattle.floyd_text.specs.declared.refusal.Refusal.{Refusal}
use Rattle.floyd_text.specs.Refusals.{refusal_at}
use Rattle.floyd_text.specs.declared.refusal.Shown.TheVariants.{Nothing}
use Rattle.floyd_text.specs.Place.{place_at}
use Rattle.floyd_lex.specs.declared.kinds.FileKind.{FileKind}
use Rattle.floyd_lex.specs.declared.kinds.TokenKind.{TokenKind}
use Rattle.floyd_lex.specs.declared.kinds.TokenKind.TheVariants as k
use Rattle.floyd_lex.specs.declared.lead.Flaw.{Flaw}
use Rattle.floyd_lex.specs.declared.lead.Flaw.TheVariants.{BadByte, OpenComment, BadNumber, TooManyTokens, LongName}
use Rattle.floyd_lex.specs.declared.lead.Lead.TheVariants as lead
use Rattle.floyd_lex.specs.Front.{front}
use Rattle.floyd_lex.specs.Token.{Piece, TokenList, placed}

-- the tokens up to the end, or up to the first refusal, which stands at a byte
pub record Outcome : Type 0 where
  pub pieces : List Piece
  pub stop : Option (Flaw × ℕ)

abbrev pub ended : Outcome
ended = record { pieces = []; stop = None }

abbrev pub stopped : Flaw → ℕ → Outcome
stopped flaw at = record { pieces = []; stop = Some (flaw, at) }

abbrev pub with_first : Piece → Outcome → Outcome
with_first p o = record { pieces = p ∷ o.pieces; stop = o.stop }

-- a name of more than 255 bytes
abbrev pub is_long_name : TokenKind → ℕ → Bool
is_long_name k.Name n = nat_lt 255 n
is_long_name _ n = false

-- The bytes of a file are cut so from `at` on, into at most so many tokens.
pub data Cuts (kind : FileKind) (bytes : List ℕ) : ℕ → ℕ → Outcome → Type 0 where
  ends : {left at : ℕ} → front kind (take at bytes) (drop at bytes) ≡ lead.End → Cuts kind bytes left at ended
  skips : {left at n : ℕ} {o : Outcome} → front kind (take at bytes) (drop at bytes) ≡ lead.Skip n → Cuts kind bytes left (at + n) o → Cuts kind bytes left at o
  takes : {left at n : ℕ} {t : TokenKind} {o : Outcome} → front kind (take at bytes) (drop at bytes) ≡ lead.Piece t n → is_long_name t n ≡ false → Cuts kind bytes left (at + n) o → Cuts kind bytes (suc left) at (with_first (record { kind = t; start = at; end = at + n }) o)
  is_long : {left at n : ℕ} {t : TokenKind} → front kind (take at bytes) (drop at bytes) ≡ lead.Piece t n → is_long_name t n ≡ true → Cuts kind bytes (suc left) at (stopped LongName at)
  is_full : {at n : ℕ} {t : TokenKind} → front kind (take at bytes) (drop at bytes) ≡ lead.Piece t n → Cuts kind bytes zero at (stopped TooManyTokens at)
  refuses : {left at n : ℕ} {flaw : Flaw} → front kind (take at bytes) (drop at bytes) ≡ lead.Bad flaw n → Cuts kind bytes left at (stopped flaw (at + n))

-- the greatest number of tokens of a file
abbrev pub token_limit : ℕ
token_limit = 1000000

abbrev pub code_of : Flaw → Code
code_of BadByte = c.BadByte
code_of OpenComment = c.OpenComment
code_of BadNumber = c.BadNumber
code_of TooManyTokens = c.TooManyTokens
code_of LongName = c.LongName

abbrev pub refusal_of : ℕ → List ℕ → Flaw → ℕ → Refusal
refusal_of file bytes flaw at = refusal_at (code_of flaw) (place_at file bytes at) Nothing

abbrev pub answer_at : ℕ → List ℕ → List Piece → Option (Flaw × ℕ) → Result TokenList Refusal
answer_at file bytes pieces None = Ok (record { file = file; items = map (placed (place_at file bytes)) pieces })
answer_at file bytes pieces (Some s) = Err (refusal_of file bytes s.0 s.1)

-- the tokens with their places, or the refusal at its place
abbrev pub answer_of : ℕ → List ℕ → Outcome → Result TokenList Refusal
answer_of file bytes o = answer_at file bytes o.pieces o.stop

-- A file of this kind and number is cut so.
pub record IsCut (kind : FileKind) (file : ℕ) (bytes : List ℕ) (answer : Result TokenList Refusal) : Type 0 where
  pub outcome : Outcome
  pub cut : Cuts kind bytes token_limit 0 outcome
  pub same : answer ≡ answer_of file bytes outcome

-- these are the tokens of a file of this kind
abbrev pub AreTokens : FileKind → List ℕ → TokenList → Type 0
AreTokens kind bytes list = IsCut kind list.file bytes (Ok list)

-- what a call answers is so, unless memory ran out
abbrev pub Answers : (Result TokenList Refusal → Type 0) → Result TokenList Halt → Type 0
Answers P (Ok list) = P (Ok list)
Answers P (Err (Refused r)) = P (Err r)
Answers P (Err Memory) = Unit {0}
