-- What the parts of the check answer.
use Rattle.std.specs.Prelude.{ℕ, List, Result, Ok, Err}
use Rattle.floyd_text.specs.declared.refusal.Halt.{Halt}
use Rattle.floyd_text.specs.declared.refusal.Halt.TheVariants.{Refused, Memory}
use Rattle.floyd_text.specs.declared.refusal.Refusal.{Refusal}
use Rattle.floyd_stub_soundness.specs.Programs.{Acceptance}
use Rattle.floyd_check.specs.Checked.{ChecksBy}
use Rattle.floyd_check.specs.FileReading.{in_file}
use Rattle.floyd_check.specs.Verdict.{Judges}

-- what a call answers is so, unless memory ran out
abbrev pub Answers : {X : Type 0} → (Result X Refusal → Type 0) → Result X Halt → Type 0
Answers P (Ok x) = P (Ok x)
Answers P (Err (Refused r)) = P (Err r)
Answers P (Err Memory) = Unit {0}

-- the same halt, in the file of this number
abbrev pub halt_in : ℕ → Halt → Halt
halt_in file (Refused r) = Refused (in_file file r)
halt_in file Memory = Memory

abbrev pub said_in : {X : Type 0} → ℕ → Result X Halt → Result X Halt
said_in file (Ok x) = Ok x
said_in file (Err halt) = Err (halt_in file halt)

-- the verdict on the three files of the one module
abbrev pub ChecksModule : List ℕ → List ℕ → List ℕ → List ℕ → Result Acceptance Halt → Type 0
ChecksModule name source spec script = ChecksBy (Judges source spec script) name
