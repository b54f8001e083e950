-- What was written, and the cause of each status.
use Rattle.std.proofs.Common.{◌≡◌, ◌≢◌, ℕ, List, Option, Some, None, Result, Ok, Err, sym, subst, ◌∙◌}
use Rattle.floyd_text.specs.declared.refusal.Refusal.{Refusal}
use Rattle.floyd_text.specs.Outside.{Files, Appends, AppendsFront}
use Rattle.floyd_stub_soundness.specs.declared.program.MainProgram.{MainProgram}
use Rattle.floyd_cli.specs.declared.status.Status.{Status}
use Rattle.floyd_cli.specs.declared.status.Status.TheVariants as s
use Rattle.floyd_cli.specs.Texts.{usage_text}
use Rattle.floyd_cli.specs.Words.{wrong_word, project_in}
use Rattle.floyd_cli.specs.Causes.{Judged, status_of, Causes, WritesFront}
use Rattle.floyd_cli.specs.AnswerClauses.{Writes, ChecksProject, WritesUsage}

-- a status that is no verdict's
abbrev IsOther : Status → Type 0
IsOther s.Done = ⊥
IsOther s.Refused = ⊥
IsOther s.Usage = Unit {0}
IsOther s.ReadFault = Unit {0}
IsOther s.WriteFault = Unit {0}
IsOther s.NoMemory = Unit {0}

no_other : (v : Result MainProgram Refusal) → IsOther (status_of v) → ⊥
no_other (Ok p) h = h
no_other (Err r) h = h

not_judged : (held : Option Files) (name : List ℕ) (status other : Status) (text : List ℕ) → Judged held name status text → other ≡ status → IsOther other → ⊥
not_judged held name status other text j e h = no_other j.verdict (subst IsOther (e ∙ j.status_is) h)

pub judged_whole : (held : Option Files) (name : List ℕ) (status : Status) (text : List ℕ) → Judged held name status text → status ≢ s.WriteFault
judged_whole held name status text j = λ e. not_judged held name status s.WriteFault text j (sym e) tt

pub writes_project : (held : Option Files) (name : List ℕ) (shelf sink : Type 0) (old new : Option (List ℕ)) (status : Status) (text : List ℕ) (r : Status)
    → Judged held name status text → Writes text status sink old new r → ChecksProject held name shelf sink old new r
writes_project held name shelf sink old new status text s.Done j w = record { text = text; judged = subst (λ (x : Status). Judged held name x text) (sym w.0) j; written = w.1 }
writes_project held name shelf sink old new status text s.Refused j w = record { text = text; judged = subst (λ (x : Status). Judged held name x text) (sym w.0) j; written = w.1 }
writes_project held name shelf sink old new status text s.Usage j w = not_judged held name status s.Usage text j w.0 tt
writes_project held name shelf sink old new status text s.ReadFault j w = absurd (not_judged held name status s.ReadFault text j w.0 tt)
writes_project held name shelf sink old new status text s.WriteFault j w = (w.0, (status, text, j, w.1))
writes_project held name shelf sink old new status text s.NoMemory j w = absurd (not_judged held name status s.NoMemory text j w.0 tt)

pub writes_usage : (word : ℕ) (sink : Type 0) (old new : Option (List ℕ)) (text : List ℕ) (r : Status) → text ≡ usage_text word → Writes text s.Usage sink old new r
    → WritesUsage word sink old new r
writes_usage word sink old new text s.Done e w = absurd (other w.0)
  where
    other : s.Done ≡ s.Usage → ⊥
    other e = cc
writes_usage word sink old new text s.Refused e w = absurd (other w.0)
  where
    other : s.Refused ≡ s.Usage → ⊥
    other e = cc
writes_usage word sink old new text s.Usage e w = subst (Appends old new) e w.1
writes_usage word sink old new text s.ReadFault e w = absurd (other w.0)
  where
    other : s.ReadFault ≡ s.Usage → ⊥
    other e = cc
writes_usage word sink old new text s.WriteFault e w = (w.0, subst (AppendsFront old new) e w.1)
writes_usage word sink old new text s.NoMemory e w = absurd (other w.0)
  where
    other : s.NoMemory ≡ s.Usage → ⊥
    other e = cc

-- the words are no command line
pub usage_causes : (words : List (List ℕ)) (held : Option Files) (shelf sink : Type 0) (old new : Option (List ℕ)) (word : ℕ) (r : Status) → wrong_word words ≡ Some word
    → WritesUsage word sink old new r → Causes words held shelf sink old new r
usage_causes words held shelf sink old new word s.Done e w = absurd w
usage_causes words held shelf sink old new word s.Refused e w = absurd w
usage_causes words held shelf sink old new word s.Usage e w = record { word = word; wrong = e; written = w }
usage_causes words held shelf sink old new word s.ReadFault e w = absurd w
usage_causes words held shelf sink old new word s.WriteFault e w = (w.0, subst (WritesFront held words old new) (sym e) w.1)
usage_causes words held shelf sink old new word s.NoMemory e w = w

-- the words name a project
pub project_causes : (words : List (List ℕ)) (held : Option Files) (shelf sink : Type 0) (old new : Option (List ℕ)) (r : Status) → wrong_word words ≡ None
    → ChecksProject held (project_in words) shelf sink old new r → Causes words held shelf sink old new r
project_causes words held shelf sink old new s.Done e w = record { form = e; text = w.text; judged = w.judged; written = w.written }
project_causes words held shelf sink old new s.Refused e w = record { form = e; text = w.text; judged = w.judged; written = w.written }
project_causes words held shelf sink old new s.Usage e w = absurd w
project_causes words held shelf sink old new s.ReadFault e w = (e, w.0, w.1)
project_causes words held shelf sink old new s.WriteFault e w = (w.0, subst (WritesFront held words old new) (sym e) w.1)
project_causes words held shelf sink old new s.NoMemory e w = w
