-- Each file is cut into tokens or refused.
use Rattle.std.proofs.Common.{◌≡◌, ℕ, zero, suc, ◌+◌, ◌<◌, ◌≤◌, Bool, true, false, List, length, take, drop, Result, refl, arith, length-drop}
use Rattle.floyd_text.specs.declared.refusal.Refusal.{Refusal}
use Rattle.floyd_lex.specs.declared.kinds.FileKind.{FileKind}
use Rattle.floyd_lex.specs.declared.kinds.TokenKind.{TokenKind}
use Rattle.floyd_lex.specs.declared.lead.Flaw.TheVariants.{TooManyTokens, LongName}
use Rattle.floyd_lex.specs.declared.lead.Lead.{Lead}
use Rattle.floyd_lex.specs.declared.lead.Lead.TheVariants as lead
use Rattle.floyd_lex.specs.Cuts.{Outcome, ended, stopped, with_first, is_long_name, Cuts, ends, skips, takes, is_long, is_full, refuses, token_limit, answer_of, IsCut}
use Rattle.floyd_lex.specs.Front.{front}
use Rattle.floyd_lex.specs.Token.{TokenList}
use Rattle.floyd_lex.proofs.MoveLemmas.{Steps, steps_by, front_moves}

-- the bytes from `at` on are cut in some way
abbrev HasOutcome : FileKind → List ℕ → ℕ → ℕ → Type 0
HasOutcome kind bytes left at = (o : Outcome) × Cuts kind bytes left at o

module _ (kind : FileKind) (bytes : List ℕ) where
  -- a token, by whether it is too long, where what stands behind it is cut
  by_length : (left at n : ℕ) (t : TokenKind) (b : Bool) → front kind (take at bytes) (drop at bytes) ≡ lead.Piece t n → is_long_name t n ≡ b
      → HasOutcome kind bytes left (at + n) → HasOutcome kind bytes (suc left) at
  by_length left at n t true e long rest = (stopped LongName at, is_long e long)
  by_length left at n t false e short rest = (with_first (record { kind = t; start = at; end = at + n }) rest.0, takes e short rest.1)

  by_lead : (left at : ℕ) (l : Lead) → front kind (take at bytes) (drop at bytes) ≡ l → Steps (length (drop at bytes)) l
      → ((after n : ℕ) → 0 < n → n ≤ length (drop at bytes) → HasOutcome kind bytes after (at + n)) → HasOutcome kind bytes left at
  by_lead left at lead.End e s rest = (ended, ends e)
  by_lead left at (lead.Skip n) e s rest =
      let more = rest left n s.0 s.1 in
      (more.0, skips e more.1)
  by_lead zero at (lead.Piece t n) e s rest = (stopped TooManyTokens at, is_full e)
  by_lead (suc left) at (lead.Piece t n) e s rest = by_length left at n t (is_long_name t n) e refl (rest left n s.0 s.1)
  by_lead left at (lead.Bad flaw n) e s rest = (stopped flaw (at + n), refuses e)

  cut_from : (most left at : ℕ) → length (drop at bytes) ≤ most → HasOutcome kind bytes left at
  cut_from zero left at h =
      by_lead left at (front kind (take at bytes) (drop at bytes)) refl (steps_by (front_moves kind (take at bytes) (drop at bytes)))
      (λ after n some within. absurd (omega (arith, h, some, within)))
  cut_from (suc most) left at h =
      by_lead left at (front kind (take at bytes) (drop at bytes)) refl (steps_by (front_moves kind (take at bytes) (drop at bytes)))
      (λ after n some within. cut_from most after (at + n) (omega (arith, h, some, within, length-drop at bytes, length-drop (at + n) bytes)))

pub has_cut : (kind : FileKind) (file : ℕ) (bytes : List ℕ) → (answer : Result TokenList Refusal) × IsCut kind file bytes answer
has_cut kind file bytes =
    let o = cut_from kind bytes (length (drop 0 bytes)) token_limit 0 (omega arith) in
    (answer_of file bytes o.0, record { outcome = o.0; cut = o.1; same = refl })
