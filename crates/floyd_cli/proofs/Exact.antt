-- What the causes of a status say of acceptance, and that they are exact.
use Rattle.std.proofs.Common.{◌≡◌, ℕ, List, Option, Some, None, Result, Ok, Err, refl, sym, ap, subst, ◌∙◌, inl, inr}
use Rattle.floyd_text.specs.declared.refusal.Refusal.{Refusal}
use Rattle.floyd_text.specs.Outside.{Files, Appends}
use Rattle.floyd_check.specs.Loading.{names_in}
use Rattle.floyd_stub_soundness.specs.declared.program.MainProgram.{MainProgram}
use Rattle.floyd_check.proofs.OneVerdict.{one_verdict}
use Rattle.floyd_cli.specs.declared.status.Status.{Status}
use Rattle.floyd_cli.specs.declared.status.Status.TheVariants as s
use Rattle.floyd_cli.specs.Words.{wrong_word, project_in}
use Rattle.floyd_cli.specs.Causes.{HasVerdict, HasText, SoundIf, status_of, verdict_text, Judged, Answers, Causes, AcceptsSound, AnswersVerdict, Exactly}

accepted : (held : Option Files) (name : List ℕ) (v : Result MainProgram Refusal) → s.Done ≡ status_of v → HasVerdict held name v → SoundIf v → AcceptsSound held name
unfolding HasVerdict AcceptsSound
accepted None name v e h k = tt
accepted (Some files) name (Ok p) e h k = (p, h, k)
accepted (Some files) name (Err r) e h k = absurd (other e)
  where
    other : s.Done ≡ s.Refused → ⊥
    other e = cc

-- Done is said of a sound program
pub done_sound : (words : List (List ℕ)) (held : Option Files) (shelf sink : Type 0) (old new : Option (List ℕ)) (status : Status)
    → Causes words held shelf sink old new status → status ≡ s.Done → AcceptsSound held (project_in words)
done_sound words held shelf sink old new status c e =
    let a : Answers held words old new s.Done = subst (Causes words held shelf sink old new) e c in
    accepted held (project_in words) a.judged.verdict a.judged.status_is a.judged.is a.judged.sound

the_verdict : (held : Option Files) (name text : List ℕ) (old new : Option (List ℕ)) (status : Status) → Judged held name status text → Appends old new text
    → AnswersVerdict held name old new status
unfolding HasVerdict HasText AnswersVerdict
the_verdict None name text old new status j w = tt
the_verdict (Some files) name text old new status j w = λ v is.
    let same : j.verdict ≡ v = one_verdict files name j.verdict v j.is is in
    inl (j.status_is ∙ ap status_of same, subst (Appends old new) (sym j.text_is ∙ ap (verdict_text (names_in files name)) same) w)

no_memory : (held : Option Files) (name : List ℕ) (old new : Option (List ℕ)) → AnswersVerdict held name old new s.NoMemory
unfolding AnswersVerdict
no_memory None name old new = tt
no_memory (Some files) name old new = λ v is. inr refl

none_some : (words : List (List ℕ)) (word : ℕ) → wrong_word words ≡ None → wrong_word words ≡ Some word → ⊥
none_some words word e f = other (sym e ∙ f)
  where
    other : None ≡ Some word → ⊥
    other e = cc

pub exactly : (words : List (List ℕ)) (held : Option Files) (shelf sink : Type 0) (old new : Option (List ℕ)) (status : Status)
    → Causes words held shelf sink old new status → Exactly words held shelf sink old new status
exactly words held shelf sink old new s.Done c = record {
  usage = λ word e q. absurd (none_some words word c.form e);
  verdict = λ e p q. the_verdict held (project_in words) c.text old new s.Done c.judged c.written;
}
exactly words held shelf sink old new s.Refused c = record {
  usage = λ word e q. absurd (none_some words word c.form e);
  verdict = λ e p q. the_verdict held (project_in words) c.text old new s.Refused c.judged c.written;
}
exactly words held shelf sink old new s.Usage c = record {
  usage = λ word e q. inl refl;
  verdict = λ e p q. absurd (none_some words c.word e c.wrong);
}
exactly words held shelf sink old new s.ReadFault c = record {
  usage = λ word e q. absurd (none_some words word c.0 e);
  verdict = λ e p q. absurd (p c.1);
}
exactly words held shelf sink old new s.WriteFault c = record {
  usage = λ word e q. absurd (q c.0);
  verdict = λ e p q. absurd (q c.0);
}
exactly words held shelf sink old new s.NoMemory c = record {
  usage = λ word e q. inr refl;
  verdict = λ e p q. no_memory held (project_in words) old new;
}
