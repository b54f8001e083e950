-- What a call answers, by what the calls in it answered.
use Rattle.std.proofs.Common.{◌≡◌, ℕ, Option, Some, None, Result, Ok, Err, refl, ap, sym, subst}
use Rattle.std.specs.Result.{IsErrAnd}
use Rattle.floyd_text.specs.declared.refusal.Halt.{Halt}
use Rattle.floyd_text.specs.declared.refusal.Halt.TheVariants.{Refused, Memory}
use Rattle.floyd_text.specs.declared.refusal.Refusal.{Refusal}
use Rattle.floyd_termread_phrases.specs.Reads.{Answer, Answers}
use Rattle.floyd_termread_parts.specs.Objects.{given}
use Rattle.floyd_termread_parts.specs.Parts.{checked}

module _ {A X : Type 0} (view : X → A × ℕ) (P : Answer A → Type 0) where
  stopped_as : (h : Halt) → ((refusal : Refusal) → h ≡ Refused refusal → P (Err refusal)) → Answers view P (Err h)
  stopped_as (Refused refusal) f = f refusal refl
  stopped_as Memory f = tt

  -- what stopped one of them stops it
  pub stopped : (r : Result X Halt) (h : Halt) → IsErrAnd r (λ x. x ≡ h) → ((refusal : Refusal) → h ≡ Refused refusal → P (Err refusal)) → Answers view P r
  stopped (Ok x) h is f = absurd is
  stopped (Err x) h is f = subst (λ (s : Halt). Answers view P (Err s)) (sym is) (stopped_as h f)

  -- it answers what the last of them does
  pub carried : (r : Result X Halt) (Q : Answer A → Type 0) → Answers view Q r → ((a : Answer A) → Q a → P a) → Answers view P r
  carried (Ok x) Q h f = f (Ok (view x)) h
  carried (Err (Refused refusal)) Q h f = f (Err refusal) h
  carried (Err Memory) Q h f = tt

-- what must be there
pub given_some : {A : Type 0} (refusal : Refusal) (o : Option A) (x : A) (at : ℕ) → o ≡ Some x → given refusal o at (Ok (x, at))
given_some {A} refusal o x at e = subst (λ (z : Option A). given refusal z at (Ok (x, at))) (sym e) refl

pub given_none : {A : Type 0} (refusal other : Refusal) (o : Option A) (at : ℕ) → o ≡ None → other ≡ refusal → given refusal o at (Err other)
given_none {A} refusal other o at e is =
    subst (λ (z : Option A). given refusal z at (Err other)) (sym e) (ap (λ (r : Refusal). Err r) is)

pub checked_ok : {A : Type 0} (w : Result A Refusal) (x : A) (at : ℕ) → w ≡ Ok x → checked w at (Ok (x, at))
checked_ok {A} w x at e = subst (λ (z : Result A Refusal). checked z at (Ok (x, at))) (sym e) refl

pub checked_err : {A : Type 0} (w : Result A Refusal) (refusal : Refusal) (at : ℕ) → w ≡ Err refusal → checked w at (Err refusal)
checked_err {A} w refusal at e = subst (λ (z : Result A Refusal). checked z at (Err refusal)) (sym e) refl
