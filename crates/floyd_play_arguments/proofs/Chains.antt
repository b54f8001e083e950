-- What a call answers, by what the calls in it answered.
use Rattle.std.proofs.Common.{◌≡◌, ℕ, Result, Ok, Err, refl, sym, subst}
use Rattle.std.specs.Result.{IsErrAnd}
use Rattle.floyd_text.specs.declared.refusal.Halt.{Halt}
use Rattle.floyd_text.specs.declared.refusal.Halt.TheVariants.{Refused, Memory}
use Rattle.floyd_text.specs.declared.refusal.Refusal.{Refusal}
use Rattle.floyd_termread_phrases.specs.Reads.{Answer, Answers}

module _ {A X : Type 0} (view : X → A × ℕ) (P : Answer A → Type 0) where
  stopped_as : (h : Halt) → ((refusal : Refusal) → h ≡ Refused refusal → P (Err refusal)) → Answers view P (Err h)
  stopped_as (Refused refusal) f = f refusal refl
  stopped_as Memory f = tt

  -- what stopped one of them stops it
  pub stopped : (r : Result X Halt) (h : Halt) → IsErrAnd r (λ x. x ≡ h) → ((refusal : Refusal) → h ≡ Refused refusal → P (Err refusal)) → Answers view P r
  stopped (Ok x) h is f = absurd is
  stopped (Err x) h is f = subst (λ (s : Halt). Answers view P (Err s)) (sym is) (stopped_as h f)

  -- it answers what the last of them does
  pub carried : (r : Result X Halt) (Q : Answer A → Type 0) → Answers view Q r → ((a : Answer A) → Q a → P a) → Answers view P r
  carried (Ok x) Q h f = f (Ok (view x)) h
  carried (Err (Refused refusal)) Q h f = f (Err refusal) h
  carried (Err Memory) Q h f = tt
