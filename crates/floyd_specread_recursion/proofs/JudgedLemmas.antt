-- What was read and judged.
use Rattle.std.proofs.Common.{◌≡◌, ℕ, List, Option, Some, None, Result, Ok, Err, refl, sym, subst}
use Rattle.std.specs.Result.{IsErrAnd}
use Rattle.floyd_text.specs.Gives.{Stops}
use Rattle.floyd_text.specs.declared.refusal.Halt.{Halt}
use Rattle.floyd_text.specs.declared.refusal.Halt.TheVariants.{Refused, Memory}
use Rattle.floyd_text.specs.declared.refusal.Refusal.{Refusal}
use Rattle.floyd_lex.specs.Token.{TokenList}
use Rattle.floyd_cparse_trees.specs.declared.types.Identifier.{Identifier}
use Rattle.floyd_termread_phrases.specs.Reads.{Answer, Answers, Reads}
use Rattle.floyd_specread_recursion.specs.Structural.{end_of, judged, structural, unless_wrong, wrong_from}
use Rattle.floyd_specread_recursion.specs.JudgedClauses.{CallsJudged, IsJudged, refused_call}

module _ (bytes : List ℕ) (list : TokenList) (own : Identifier) where
  -- where no call is wrong, what was read stays
  stays : {A : Type 0} (o : Option ℕ) (u : Unit {0}) (read : Answer A) → refused_call bytes list own o ≡ Ok u → read ≡ unless_wrong bytes list own o read
  stays None u read e = refl
  stays (Some at) u read e = absurd cc

  refused : {A : Type 0} (o : Option ℕ) (refusal : Refusal) (read : Answer A) → refused_call bytes list own o ≡ Err refusal → Err refusal ≡ unless_wrong bytes list own o read
  refused None refusal read e = absurd cc
  refused (Some at) refusal read e = cc

  -- and else it is refused
  stopped_call : {A : Type 0} (o : Option ℕ) (read : Answer A) (r : Result (A × ℕ) Halt) (h : Halt) → IsErrAnd r (λ x. x ≡ h) → Stops h (refused_call bytes list own o) → Answers (λ (x : A × ℕ). x) (λ answer. answer ≡ unless_wrong bytes list own o read) r
  stopped_call o read (Ok x) h is stops = absurd is
  stopped_call o read (Err (Refused refusal)) h is stops = refused o refusal read (subst (λ (s : Halt). Stops s (refused_call bytes list own o)) (sym is) stops)
  stopped_call o read (Err Memory) h is stops = tt

module _ {A : Type 0} (bytes : List ℕ) (list : TokenList) (own : Identifier) (parts : List (List ℕ)) (start : ℕ) where
  -- a wrong call stops what was read
  pub wrong_call : (read r : Result (A × ℕ) Halt) (h : Halt) → IsErrAnd r (λ x. x ≡ h) → CallsJudged bytes list own parts start read (Err h) → IsJudged bytes list own parts start read r
  wrong_call (Ok x) r h is stops = stopped_call bytes list own (wrong_from bytes list own.name parts x.1 start) (Ok x) r h is stops
  wrong_call (Err (Refused refusal)) r h is stops =
      stopped_call bytes list own (wrong_from bytes list own.name parts (end_of bytes list {A = A} start (Err refusal)) start) (Err refusal) r h is stops
  wrong_call (Err Memory) r h is stops = absurd cc

  -- and without one it stays
  pub right_calls : (read : Result (A × ℕ) Halt) → CallsJudged bytes list own parts start read (Ok tt) → IsJudged bytes list own parts start read read
  right_calls (Ok x) e = stays bytes list own (wrong_from bytes list own.name parts x.1 start) tt (Ok x) e
  right_calls (Err (Refused refusal)) e = stays bytes list own (wrong_from bytes list own.name parts (end_of bytes list {A = A} start (Err refusal)) start) tt (Err refusal) e
  right_calls (Err Memory) e = refl

module _ {A : Type 0} (bytes : List ℕ) (list : TokenList) (own : Identifier) (parts : List (List ℕ)) (reads : Reads A) (start : ℕ) where
  with_answer : (read : Answer A) → reads start read → (r : Result (A × ℕ) Halt) → Answers (λ (x : A × ℕ). x) (λ answer. answer ≡ judged bytes list own parts start read) r
      → Answers (λ (x : A × ℕ). x) (structural bytes list own parts reads start) r
  with_answer read is (Ok x) h = (read, is, h)
  with_answer read is (Err (Refused refusal)) h = (read, is, h)
  with_answer read is (Err Memory) h = tt

  -- what was read is judged so
  pub judged_is : (read result : Result (A × ℕ) Halt) → Answers (λ (x : A × ℕ). x) (reads start) read → IsJudged bytes list own parts start read result → Answers (λ (x : A × ℕ). x) (structural bytes list own parts reads start) result
  judged_is (Ok x) result is h = with_answer (Ok x) is result h
  judged_is (Err (Refused refusal)) result is h = with_answer (Err refusal) is result h
  judged_is (Err Memory) (Ok x) is h = absurd cc
  judged_is (Err Memory) (Err (Refused refusal)) is h = absurd cc
  judged_is (Err Memory) (Err Memory) is h = tt
