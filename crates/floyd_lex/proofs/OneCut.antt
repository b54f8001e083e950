-- There is one outcome.
use Rattle.std.proofs.Common.{◌≡◌, ℕ, ◌+◌, ◌∙◌, Bool, true, false, List, take, drop, suc, zero, Result, refl, ap, sym, subst}
use Rattle.floyd_text.specs.declared.refusal.Refusal.{Refusal}
use Rattle.floyd_lex.specs.declared.kinds.FileKind.{FileKind}
use Rattle.floyd_lex.specs.declared.kinds.TokenKind.{TokenKind}
use Rattle.floyd_lex.specs.declared.lead.Flaw.TheVariants.{TooManyTokens, LongName}
use Rattle.floyd_lex.specs.declared.lead.Lead.{Lead}
use Rattle.floyd_lex.specs.declared.lead.Lead.TheVariants as lead
use Rattle.floyd_lex.specs.Front.{front}
use Rattle.floyd_lex.specs.Cuts.{Cuts, Outcome, ended, stopped, with_first, is_long_name, ends, skips, takes, is_long, is_full, refuses, IsCut, answer_of}
use Rattle.floyd_lex.specs.Token.{TokenList}

module _ (kind : FileKind) (bytes : List ℕ) where
  -- a token that is or is not a long name
  abbrev Taken : ℕ → ℕ → TokenKind → ℕ → Outcome → Bool → Type 0
  Taken left at t n o true = o ≡ stopped LongName at
  Taken left at t n o false = (rest : Outcome) × Cuts kind bytes left (at + n) rest × (o ≡ with_first (record { kind = t; start = at; end = at + n }) rest)

  -- what an outcome is, by what comes first
  abbrev Step : ℕ → ℕ → Outcome → Lead → Type 0
  Step left at o lead.End = o ≡ ended
  Step left at o (lead.Skip n) = Cuts kind bytes left (at + n) o
  Step zero at o (lead.Piece t n) = o ≡ stopped TooManyTokens at
  Step (suc left) at o (lead.Piece t n) = Taken left at t n o (is_long_name t n)
  Step left at o (lead.Bad flaw n) = o ≡ stopped flaw (at + n)

  step_of : {left at : ℕ} {o : Outcome} → Cuts kind bytes left at o → Step left at o (front kind (take at bytes) (drop at bytes))
  step_of {left = left} {at = at} {o = o} (ends e) = subst (Step left at o) (sym e) refl
  step_of {left = left} {at = at} {o = o} (skips e d) = subst (Step left at o) (sym e) d
  step_of {left = suc left} {at = at} {o = o} (takes {n = n} {t = t} {o = rest} e short d) = subst (Step (suc left) at o) (sym e) (subst (Taken left at t n o) (sym short) (rest, d, refl))
  step_of {left = suc left} {at = at} {o = o} (is_long {n = n} {t = t} e long) = subst (Step (suc left) at o) (sym e) (subst (Taken left at t n o) (sym long) refl)
  step_of {left = zero} {at = at} {o = o} (is_full e) = subst (Step zero at o) (sym e) refl
  step_of {left = left} {at = at} {o = o} (refuses e) = subst (Step left at o) (sym e) refl

  pub same_outcome : {left at : ℕ} {o p : Outcome} → Cuts kind bytes left at o → Cuts kind bytes left at p → o ≡ p
  same_outcome {left = left} {at = at} {o = o} {p = p} (ends e) c = sym (subst (Step left at p) e (step_of c))
  same_outcome {left = left} {at = at} {o = o} {p = p} (skips e d) c = same_outcome d (subst (Step left at p) e (step_of c))
  same_outcome {left = suc left} {at = at} {o = o} {p = p} (takes {n = n} {t = t} e short d) c =
      let s = subst (Taken left at t n p) short (subst (Step (suc left) at p) e (step_of c)) in
      ap (with_first (record { kind = t; start = at; end = at + n })) (same_outcome d s.1) ∙ sym s.2
  same_outcome {left = suc left} {at = at} {o = o} {p = p} (is_long {n = n} {t = t} e long) c = sym (subst (Taken left at t n p) long (subst (Step (suc left) at p) e (step_of c)))
  same_outcome {left = zero} {at = at} {o = o} {p = p} (is_full e) c = sym (subst (Step zero at p) e (step_of c))
  same_outcome {left = left} {at = at} {o = o} {p = p} (refuses e) c = sym (subst (Step left at p) e (step_of c))

pub same_answer : (kind : FileKind) (file : ℕ) (bytes : List ℕ) (a b : Result TokenList Refusal) → IsCut kind file bytes a → IsCut kind file bytes b → a ≡ b
same_answer kind file bytes a b c d = c.same ∙ ap (answer_of file bytes) (same_outcome kind bytes c.cut d.cut) ∙ sym d.same
