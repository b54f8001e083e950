-- What the command line answers: each status with its cause.
use Rattle.std.specs.Prelude.{◌≡◌, ℕ, ◌⊎◌, List, [], ◌∷◌, Option, Some, None, Result, Ok, Err, codes}
use Rattle.floyd_text.specs.declared.refusal.Refusal.{Refusal}
use Rattle.floyd_text.specs.Outside.{Files, Appends, AppendsFront}
use Rattle.floyd_stub_runs.specs.Sound.{Sound}
use Rattle.floyd_check.specs.Loading.{names_in}
use Rattle.floyd_check.specs.Verdict.{IsVerdict}
use Rattle.floyd_stub_soundness.specs.declared.program.MainProgram.{MainProgram}
use Rattle.floyd_stub_soundness.specs.Programs.{linked_of}
use Rattle.floyd_cli.specs.declared.status.Status.{Status}
use Rattle.floyd_cli.specs.declared.status.Status.TheVariants.{Done, Refused, Usage, ReadFault, WriteFault, NoMemory}
use Rattle.floyd_cli.specs.Texts.{refusal_text, accepted_text, usage_text}
use Rattle.floyd_cli.specs.Words.{wrong_word, project_in}

-- the number with which the program ends
abbrev pub number_of : Status → ℕ
number_of Done = 0
number_of Refused = 1
number_of Usage = 2
number_of ReadFault = 3
number_of WriteFault = 4
number_of NoMemory = 5

-- the status of a verdict
abbrev pub status_of : Result MainProgram Refusal → Status
status_of (Ok p) = Done
status_of (Err r) = Refused

-- the text of a verdict, where the files have these names
abbrev pub verdict_text : List (List ℕ) → Result MainProgram Refusal → List ℕ
verdict_text names (Ok p) = accepted_text (codes "main" ∷ [])
verdict_text names (Err r) = refusal_text names r

-- Where the shelf tells, this is the verdict on the project.
unfoldable pub HasVerdict : Option Files → List ℕ → Result MainProgram Refusal → Type 0
HasVerdict None name v = Unit {0}
HasVerdict (Some held) name v = IsVerdict held name v

-- Where the shelf tells, this is the verdict's text.
unfoldable pub HasText : Option Files → List ℕ → Result MainProgram Refusal → List ℕ → Type 0
HasText None name v text = Unit {0}
HasText (Some held) name v text = verdict_text (names_in held name) v ≡ text

-- an accepted program is sound
abbrev pub SoundIf : Result MainProgram Refusal → Type 0
SoundIf (Ok p) = Sound (linked_of p)
SoundIf (Err r) = Unit {0}

-- what `check` answers of a project, before it is written: the verdict's status and text
pub record Judged (held : Option Files) (name : List ℕ) (status : Status) (text : List ℕ) : Type 0 where
  pub verdict : Result MainProgram Refusal
  pub is : HasVerdict held name verdict
  pub sound : SoundIf verdict
  pub status_is : status ≡ status_of verdict
  pub text_is : HasText held name verdict text

-- the verdict's status was answered, and its text was written whole
pub record Answers (held : Option Files) (words : List (List ℕ)) (old new : Option (List ℕ)) (status : Status) : Type 0 where
  pub form : wrong_word words ≡ None
  pub text : List ℕ
  pub judged : Judged held (project_in words) status text
  pub written : Appends old new text

-- the words are no command line, and the text says which word is wrong
pub record Misused (words : List (List ℕ)) (old new : Option (List ℕ)) : Type 0 where
  pub word : ℕ
  pub wrong : wrong_word words ≡ Some word
  pub written : Appends old new (usage_text word)

-- a front of the text was written: of the usage, or of the verdict's text
abbrev pub WritesFront : Option Files → List (List ℕ) → Option (List ℕ) → Option (List ℕ) → Option ℕ → Type 0
WritesFront held words old new (Some word) = AppendsFront old new (usage_text word)
WritesFront held words old new None =
    (status : Status) × (text : List ℕ) × Judged held (project_in words) status text × AppendsFront old new text

-- each answer has its cause
abbrev pub Causes : List (List ℕ) → Option Files → Type 0 → Type 0 → Option (List ℕ) → Option (List ℕ) → Status → Type 0
Causes words held shelf_rose sink_rose old new Done = Answers held words old new Done
Causes words held shelf_rose sink_rose old new Refused = Answers held words old new Refused
Causes words held shelf_rose sink_rose old new Usage = Misused words old new
Causes words held shelf_rose sink_rose old new ReadFault = (wrong_word words ≡ None) × shelf_rose × (new ≡ old)
Causes words held shelf_rose sink_rose old new WriteFault = sink_rose × WritesFront held words old new (wrong_word words)
Causes words held shelf_rose sink_rose old new NoMemory = new ≡ old

-- Where the shelf tells, the project is accepted, and its program is sound: for every start that meets main's
-- precondition, every list of external answers that keep their specifications and every n, it is not stuck within n
-- steps of the Clight machine, and every call entered in its precondition that returns meets its postcondition, with
-- all else untouched.
unfoldable pub AcceptsSound : Option Files → List ℕ → Type 0
AcceptsSound None name = Unit {0}
AcceptsSound (Some held) name = (p : MainProgram) × IsVerdict held name (Ok p) × Sound (linked_of p)

-- Where the shelf tells, the status is the verdict's, and the verdict's text was written, unless memory ran out.
unfoldable pub AnswersVerdict : Option Files → List ℕ → Option (List ℕ) → Option (List ℕ) → Status → Type 0
AnswersVerdict None name old new status = Unit {0}
AnswersVerdict (Some held) name old new status =
    (v : Result MainProgram Refusal) → IsVerdict held name v
    → ((status ≡ status_of v) × Appends old new (verdict_text (names_in held name) v)) ⊎ (status ≡ NoMemory)

-- Exactly: where neither the shelf nor the sink failed, words that are no command line are answered by their usage, and
-- others by the verdict, want of memory aside.
pub record Exactly (words : List (List ℕ)) (held : Option Files) (shelf_rose sink_rose : Type 0) (old new : Option (List ℕ)) (status : Status) : Type 0 where
  pub usage : (word : ℕ) → wrong_word words ≡ Some word → (sink_rose → ⊥) → (status ≡ Usage) ⊎ (status ≡ NoMemory)
  pub verdict : wrong_word words ≡ None → (shelf_rose → ⊥) → (sink_rose → ⊥) → AnswersVerdict held (project_in words) old new status
