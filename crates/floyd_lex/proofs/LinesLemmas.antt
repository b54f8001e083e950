-- The first lines of a file are cut as they are by themselves.
use Rattle.std.proofs.Common.{◌≡◌, ℕ, ◌+◌, ◌-◌, ◌∙◌, ◌<◌, ◌≤◌, false, List, [], ◌∷◌, ◌++◌, length, take, drop, suc, zero, Option, Some, None, refl, ap, sym, subst, arith, inl, inr}
use Rattle.std.proofs.lemmas.Bool.{cases_lt}
use Rattle.std.proofs.lemmas.List.{length-drop, length-append, drop_all, take-append-le, drop-append-le, append_assoc}
use Rattle.floyd_lex.specs.declared.kinds.FileKind.{FileKind}
use Rattle.floyd_lex.specs.declared.kinds.TokenKind.{TokenKind}
use Rattle.floyd_lex.specs.declared.lead.Flaw.{Flaw}
use Rattle.floyd_lex.specs.declared.lead.Flaw.TheVariants.{BadByte, OpenComment, BadNumber, TooManyTokens, LongName}
use Rattle.floyd_lex.specs.declared.lead.Lead.{Lead}
use Rattle.floyd_lex.specs.declared.lead.Lead.TheVariants as lead
use Rattle.floyd_lex.specs.Front.{front}
use Rattle.floyd_lex.specs.Cuts.{Cuts, Outcome, ended, is_long_name, ends, skips, takes, is_long, is_full, refuses}
use Rattle.floyd_lex.specs.Token.{Piece}
use Rattle.floyd_lex.specs.Laws.{AreLines, no_lines, lines, GoesOn, Continues}
use Rattle.floyd_lex.proofs.LocalLemmas.{front_stays}
use Rattle.floyd_lex.proofs.GapLemmas.{rest_end, none_left, open_here}
use Rattle.floyd_lex.proofs.CutLemmas.{skip_within, piece_within}
use Rattle.floyd_lex.proofs.OneCut.{same_outcome}

-- what is cut does not begin at the end
not_over : (kind : FileKind) (bytes : List ℕ) (at : ℕ) (l : Lead) → front kind (take at bytes) (drop at bytes) ≡ l → (l ≡ lead.End → ⊥) → at < length bytes
not_over kind bytes at l e some = elim (cases_lt at (length bytes)) [
  | inl h ↦ h
  | inr h ↦ absurd (some (sym e ∙ ap (front kind (take at bytes)) (drop_all at bytes h) ∙ none_left kind (take at bytes)))
]

module _ (kind : FileKind) (whole : List ℕ) (at end : ℕ) where
  -- what is skipped, and a token, before what goes on
  skip_goes : (left n : ℕ) (pieces : List Piece) (stop : Option (Flaw × ℕ)) → front kind (take at whole) (drop at whole) ≡ lead.Skip n → Continues kind whole left (at + n) end pieces stop → Continues kind whole left at end pieces stop
  skip_goes left n pieces None e f = λ p c. skips e (f p c)
  skip_goes left n pieces (Some (OpenComment, to)) e f = λ p c. skips e (f p c)
  skip_goes left n pieces (Some (BadByte, to)) e f = skips e f
  skip_goes left n pieces (Some (BadNumber, to)) e f = skips e f
  skip_goes left n pieces (Some (TooManyTokens, to)) e f = skips e f
  skip_goes left n pieces (Some (LongName, to)) e f = skips e f

  abbrev cut_piece : TokenKind → ℕ → Piece
  cut_piece t n = record { kind = t; start = at; end = at + n }

  one_less : (left to : ℕ) (pieces : List Piece) (p : Outcome) → Cuts kind whole (suc left - suc (length pieces)) to p → Cuts kind whole (left - length pieces) to p
  one_less left to pieces p = let e : suc left - suc (length pieces) ≡ left - length pieces = omega arith in subst (λ (m : ℕ). Cuts kind whole m to p) e

  take_goes : (left n : ℕ) (t : TokenKind) (pieces : List Piece) (stop : Option (Flaw × ℕ)) → front kind (take at whole) (drop at whole) ≡ lead.Piece t n → is_long_name t n ≡ false → Continues kind whole left (at + n) end pieces stop → Continues kind whole (suc left) at end (cut_piece t n ∷ pieces) stop
  take_goes left n t pieces None e short f = λ p c. takes e short (f p (one_less left end pieces p c))
  take_goes left n t pieces (Some (OpenComment, to)) e short f = λ p c. takes e short (f p (one_less left to pieces p c))
  take_goes left n t pieces (Some (BadByte, to)) e short f = takes e short f
  take_goes left n t pieces (Some (BadNumber, to)) e short f = takes e short f
  take_goes left n t pieces (Some (TooManyTokens, to)) e short f = takes e short f
  take_goes left n t pieces (Some (LongName, to)) e short f = takes e short f

  -- nothing cut so far
  goes_on_here : (left to : ℕ) → to ≡ at → GoesOn kind whole left at to []
  goes_on_here left to e p c = let same : left - 0 ≡ left = omega arith in subst (λ (m : ℕ). Cuts kind whole m at p) same (subst (λ (m : ℕ). Cuts kind whole (left - 0) m p) e c)

module _ (kind : FileKind) (zs more : List ℕ) where
  here_stays : (at : ℕ) (l : Lead) → front kind (take at (zs ++ 10 ∷ [])) (drop at (zs ++ 10 ∷ [])) ≡ l → (l ≡ lead.End → ⊥) → (l ≡ lead.Bad OpenComment 0 → ⊥) → front kind (take at ((zs ++ 10 ∷ []) ++ more)) (drop at ((zs ++ 10 ∷ []) ++ more)) ≡ l
  here_stays at l e some closed =
      let h = not_over kind (zs ++ 10 ∷ []) at l e some in
      let within : at ≤ length zs = omega (arith, h, length-append zs (10 ∷ [])) in
      let short = drop-append-le at zs (10 ∷ []) within in
      let before = take-append-le at (zs ++ 10 ∷ []) more (omega (arith, h)) in
      let rest = drop-append-le at (zs ++ 10 ∷ []) more (omega (arith, h)) ∙ ap (λ (z : List ℕ). z ++ more) short ∙ append_assoc (drop at zs) (10 ∷ []) more in
      let line = front_stays kind (take at (zs ++ 10 ∷ [])) (drop at zs) [] more l (ap (front kind (take at (zs ++ 10 ∷ []))) (sym short) ∙ e) closed in
      rw (before, rest) line

  stays : {left at : ℕ} {o : Outcome} → Cuts kind (zs ++ 10 ∷ []) left at o → at ≤ length (zs ++ 10 ∷ []) → Continues kind ((zs ++ 10 ∷ []) ++ more) left at (length (zs ++ 10 ∷ [])) o.pieces o.stop
  stays {left = left} {at = at} (ends e) h =
      let over : length (zs ++ 10 ∷ []) - at ≡ 0 = sym (length-drop at (zs ++ 10 ∷ [])) ∙ ap length (rest_end kind (take at (zs ++ 10 ∷ [])) (drop at (zs ++ 10 ∷ [])) e) in
      goes_on_here kind ((zs ++ 10 ∷ []) ++ more) at (length (zs ++ 10 ∷ [])) left (length (zs ++ 10 ∷ [])) (omega (arith, over, h))
  stays {left = left} {at = at} {o = o} (skips {n = n} e d) h =
      skip_goes kind ((zs ++ 10 ∷ []) ++ more) at (length (zs ++ 10 ∷ [])) left n o.pieces o.stop (here_stays at (lead.Skip n) e (λ f. cc) (λ f. cc)) (stays d (skip_within kind (zs ++ 10 ∷ []) at n e h).1)
  stays {left = suc left} {at = at} (takes {n = n} {t = t} {o = o} e short d) h =
      take_goes kind ((zs ++ 10 ∷ []) ++ more) at (length (zs ++ 10 ∷ [])) left n t o.pieces o.stop (here_stays at (lead.Piece t n) e (λ f. cc) (λ f. cc)) short (stays d (piece_within kind (zs ++ 10 ∷ []) at n t e h).1)
  stays {left = suc left} {at = at} (is_long {n = n} {t = t} e long) h = is_long (here_stays at (lead.Piece t n) e (λ f. cc) (λ f. cc)) long
  stays {left = zero} {at = at} (is_full {n = n} {t = t} e) h = is_full (here_stays at (lead.Piece t n) e (λ f. cc) (λ f. cc))
  stays {left = left} {at = at} (refuses {n = n} {flaw = OpenComment} e) h =
      let none : n ≡ 0 = open_here kind (take at (zs ++ 10 ∷ [])) (drop at (zs ++ 10 ∷ [])) n e in
      goes_on_here kind ((zs ++ 10 ∷ []) ++ more) at (length (zs ++ 10 ∷ [])) left (at + n) (omega (arith, none))
  stays {left = left} {at = at} (refuses {n = n} {flaw = BadByte} e) h = refuses (here_stays at (lead.Bad BadByte n) e (λ f. cc) (λ f. cc))
  stays {left = left} {at = at} (refuses {n = n} {flaw = BadNumber} e) h = refuses (here_stays at (lead.Bad BadNumber n) e (λ f. cc) (λ f. cc))
  stays {left = left} {at = at} (refuses {n = n} {flaw = TooManyTokens} e) h = refuses (here_stays at (lead.Bad TooManyTokens n) e (λ f. cc) (λ f. cc))
  stays {left = left} {at = at} (refuses {n = n} {flaw = LongName} e) h = refuses (here_stays at (lead.Bad LongName n) e (λ f. cc) (λ f. cc))

pub stand_alone : (kind : FileKind) (left : ℕ) (front more : List ℕ) (o : Outcome) → AreLines front → Cuts kind front left 0 o → Continues kind (front ++ more) left 0 (length front) o.pieces o.stop
stand_alone kind left front more o no_lines c =
    let nothing : ended ≡ o = same_outcome kind [] (ends (none_left kind [])) c in
    subst (λ (p : Outcome). Continues kind more left 0 0 p.pieces p.stop) nothing (goes_on_here kind more 0 0 left 0 refl)
stand_alone kind left front more o (lines zs) c = stays kind zs more c (omega arith)
