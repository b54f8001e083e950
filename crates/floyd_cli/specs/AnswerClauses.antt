-- What is answered before it is written.
use Rattle.std.specs.Prelude.{◌≡◌, ℕ, List, Option, Result, Ok, Err}
use Rattle.floyd_text.specs.declared.refusal.Refusal.{Refusal}
use Rattle.floyd_text.specs.Outside.{Files, Rose, Appends, AppendsFront}
use Rattle.floyd_check.specs.Verdict.{JudgesThree}
use Rattle.floyd_stub_soundness.specs.declared.program.MainProgram.{MainProgram}
use Rattle.floyd_cli.specs.declared.status.Status.{Status}
use Rattle.floyd_cli.specs.declared.status.Status.TheVariants as s
use Rattle.floyd_cli.specs.declared.top.Answer.{Answer}
use Rattle.floyd_cli.specs.declared.top.AnswerStop.{AnswerStop}
use Rattle.floyd_cli.specs.declared.top.AnswerStop.TheVariants.{Fault, Memory}
use Rattle.floyd_text.specs.declared.refusal.Halt.{Halt}
use Rattle.floyd_text.specs.declared.refusal.Halt.TheVariants.{Refused, Memory as Out}
use Rattle.floyd_cli.specs.Texts.{refusal_text, usage_text}
use Rattle.floyd_cli.specs.Causes.{SoundIf, status_of, verdict_text, Judged}

-- the status and the text of the verdict on these files, which have these names
pub record JudgedFiles (files names : List (List ℕ)) (a : Answer) : Type 0 where
  pub verdict : Result MainProgram Refusal
  pub is : JudgesThree files verdict
  pub sound : SoundIf verdict
  pub status_is : a.status ≡ status_of verdict
  pub text_is : a.text ≡ verdict_text names verdict

-- the line of a refusal, where the files have these names; there is none where memory ran out
abbrev pub IsRefusalAnswer : List (List ℕ) → Halt → Answer → Type 0
IsRefusalAnswer names (Refused r) a = a ≡ record { status = s.Refused; text = refusal_text names r }
IsRefusalAnswer names Out a = ⊥

-- what is answered of the project of that name, where the count of faults was and is so
abbrev pub GivesAnswer : Option Files → List ℕ → ℕ → ℕ → Result Answer AnswerStop → Type 0
GivesAnswer held name before now (Ok a) = Judged held name a.status a.text
GivesAnswer held name before now (Err Fault) = Rose before now
GivesAnswer held name before now (Err Memory) = Unit {0}

-- the wanted status is given where the text was written whole, and else the sink failed after a front of it
abbrev pub Writes : List ℕ → Status → Type 0 → Option (List ℕ) → Option (List ℕ) → Status → Type 0
Writes text wanted rose old new s.WriteFault = rose × AppendsFront old new text
Writes text wanted rose old new s.Done = (s.Done ≡ wanted) × Appends old new text
Writes text wanted rose old new s.Refused = (s.Refused ≡ wanted) × Appends old new text
Writes text wanted rose old new s.Usage = (s.Usage ≡ wanted) × Appends old new text
Writes text wanted rose old new s.ReadFault = (s.ReadFault ≡ wanted) × Appends old new text
Writes text wanted rose old new s.NoMemory = (s.NoMemory ≡ wanted) × Appends old new text

-- the usage line was written, or a front of it, or memory ran out
abbrev pub WritesUsage : ℕ → Type 0 → Option (List ℕ) → Option (List ℕ) → Status → Type 0
WritesUsage word rose old new s.Done = ⊥
WritesUsage word rose old new s.Refused = ⊥
WritesUsage word rose old new s.Usage = Appends old new (usage_text word)
WritesUsage word rose old new s.ReadFault = ⊥
WritesUsage word rose old new s.WriteFault = rose × AppendsFront old new (usage_text word)
WritesUsage word rose old new s.NoMemory = new ≡ old

-- the verdict of the project with its text written whole
pub record Written (held : Option Files) (name : List ℕ) (old new : Option (List ℕ)) (status : Status) : Type 0 where
  pub text : List ℕ
  pub judged : Judged held name status text
  pub written : Appends old new text

-- what the check of a project answers
abbrev pub ChecksProject : Option Files → List ℕ → Type 0 → Type 0 → Option (List ℕ) → Option (List ℕ) → Status → Type 0
ChecksProject held name shelf_rose sink_rose old new s.Done = Written held name old new s.Done
ChecksProject held name shelf_rose sink_rose old new s.Refused = Written held name old new s.Refused
ChecksProject held name shelf_rose sink_rose old new s.Usage = ⊥
ChecksProject held name shelf_rose sink_rose old new s.ReadFault = shelf_rose × (new ≡ old)
ChecksProject held name shelf_rose sink_rose old new s.WriteFault =
    sink_rose × ((status : Status) × (text : List ℕ) × Judged held name status text × AppendsFront old new text)
ChecksProject held name shelf_rose sink_rose old new s.NoMemory = new ≡ old
