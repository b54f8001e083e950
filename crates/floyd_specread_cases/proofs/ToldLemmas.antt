-- What is told is what the reading tells.
use Rattle.std.proofs.Common.{ℕ, Bool, Result, Ok, Err}
use Rattle.std.specs.Result.{IfOk}
use Rattle.floyd_text.specs.declared.refusal.Halt.{Halt}
use Rattle.floyd_text.specs.declared.refusal.Halt.TheVariants.{Refused, Memory}
use Rattle.floyd_termread_phrases.specs.Reads.{Answers, Reads}
use Rattle.floyd_specread_cases.specs.Cases.{Tells}
use Rattle.floyd_specread_cases.specs.ToldClauses.{IsTold}

tells : (form : Reads Bool) (at : ℕ) (read : Result (Bool × ℕ) Halt) (differ : Bool) → Answers (λ (x : Bool × ℕ). x) (form at) read → IsTold read differ → Tells form at differ
tells form at (Ok x) differ is told = (Ok x, is, told)
tells form at (Err (Refused refusal)) differ is told = (Err refusal, is, told)
tells form at (Err Memory) differ is told = absurd told

pub tells_if : {E : Type 0} (form : Reads Bool) (at : ℕ) (read : Result (Bool × ℕ) Halt) (r : Result Bool E) → Answers (λ (x : Bool × ℕ). x) (form at) read → IfOk r (IsTold read) → IfOk r (Tells form at)
tells_if form at read (Ok differ) is told = tells form at read differ is told
tells_if form at read (Err e) is told = tt
