-- What the check of a project answers.
use Rattle.std.specs.Prelude.{◌≡◌, ℕ, List, Result, Ok, Err}
use Rattle.floyd_text.specs.declared.refusal.Halt.{Halt}
use Rattle.floyd_text.specs.declared.refusal.Halt.TheVariants.{Refused, Memory}
use Rattle.floyd_text.specs.declared.refusal.Refusal.{Refusal}
use Rattle.floyd_stub_soundness.specs.declared.program.MainProgram.{MainProgram}
use Rattle.floyd_stub_soundness.specs.Programs.{Acceptance, IsAccepted}
use Rattle.floyd_check.specs.Verdict.{JudgesThree, JudgesFiles}

-- The verdict is answered, unless memory ran out. What is accepted is the project of that name, and its program is
-- sound.
abbrev pub ChecksBy : (Result MainProgram Refusal → Type 0) → List ℕ → Result Acceptance Halt → Type 0
ChecksBy Verdict name (Ok a) = Verdict (Ok a.program) × IsAccepted a × (a.project ≡ name)
ChecksBy Verdict name (Err (Refused r)) = Verdict (Err r)
ChecksBy Verdict name (Err Memory) = Unit {0}

-- of the bytes of the project of that name and of its files
abbrev pub Checks : List ℕ → List (List ℕ) → Result Acceptance Halt → Type 0
Checks name files = ChecksBy (JudgesFiles files) name

-- of the bytes of the files of its one module
abbrev pub ChecksThree : List ℕ → List (List ℕ) → Result Acceptance Halt → Type 0
ChecksThree name files = ChecksBy (JudgesThree files) name
