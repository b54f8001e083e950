-- What is answered, by what was loaded and judged.
use Rattle.std.specs.Prelude.{slice_get}
use Rattle.std.proofs.Common.{◌≡◌, ℕ, ◌+◌, nat_le, length, Bool, true, false, cond, List, [], ◌∷◌, Option, Some, None, Result, Ok, Err, refl, sym, ap, subst, ◌∙◌}
use Rattle.floyd_text.specs.declared.refusal.Halt.{Halt}
use Rattle.floyd_text.specs.declared.refusal.Halt.TheVariants.{Refused, Memory}
use Rattle.floyd_text.specs.declared.refusal.Refusal.{Refusal}
use Rattle.floyd_cli.specs.declared.load.LoadStop.TheVariants.{Halted}
use Rattle.floyd_text.specs.Outside.{Files, file_in}
use Rattle.floyd_text.specs.Place.{first_place}
use Rattle.floyd_check_project.specs.declared.module.Module.{Module}
use Rattle.floyd_check.specs.Loading.{on_ok, bytes_at, modules_of, loaded, names_with}
use Rattle.floyd_check.specs.Verdict.{JudgesThree, JudgesModules, JudgesLoaded}
use Rattle.floyd_check.proofs.RefusalFiles.{InProject, loaded_in}
use Rattle.floyd_stub_soundness.specs.declared.program.MainProgram.{MainProgram}
use Rattle.floyd_cli.specs.declared.status.Status.TheVariants as s
use Rattle.floyd_cli.specs.declared.top.Answer.{Answer}
use Rattle.floyd_cli.specs.LoadClauses.{HasProject, HasLoaded, HasNames, Loads}
use Rattle.floyd_cli.specs.Texts.{refusal_text, line_text, name_in}
use Rattle.floyd_cli.specs.Causes.{HasVerdict, HasText, verdict_text, Judged}
use Rattle.floyd_cli.specs.AnswerClauses.{JudgedFiles, IsRefusalAnswer}

has_verdict : (held : Option Files) (name : List ℕ) (files : List (List ℕ)) (v : Result MainProgram Refusal) → HasLoaded held name files → JudgesThree files v → HasVerdict held name v
unfolding HasLoaded HasVerdict
has_verdict None name files v h j = tt
has_verdict (Some fs) name files v h j =
    subst (λ (r : Result (List (List ℕ)) Refusal). JudgesLoaded r v) (sym h.2)
    (subst (λ (m : Result (List Module) Refusal). JudgesModules m files v) (sym h.3) j)

has_text : (held : Option Files) (name : List ℕ) (names : List (List ℕ)) (v : Result MainProgram Refusal) (text : List ℕ) → HasNames held name names → text ≡ verdict_text names v → HasText held name v text
unfolding HasNames HasText
has_text None name names v text h e = tt
has_text (Some fs) name names v text h e = ap (λ (ns : List (List ℕ)). verdict_text ns v) h ∙ sym e

-- the verdict on the files that were loaded is that on the project
pub judged_project : (held : Option Files) (name : List ℕ) (files names : List (List ℕ)) (a : Answer) → HasLoaded held name files → HasNames held name names
    → JudgedFiles files names a → Judged held name a.status a.text
judged_project held name files names a p n j = record {
  verdict = j.verdict;
  is = has_verdict held name files j.verdict p j.is;
  sound = j.sound;
  status_is = j.status_is;
  text_is = has_text held name names j.verdict a.text n j.text_is;
}

-- the first name is the project's
first_name : (name : List ℕ) (m : Result (List Module) Refusal) → slice_get (names_with name m) 0 ≡ Some name
first_name name (Ok modules) = refl
first_name name (Err r) = refl

text_in : (name : List ℕ) (m : Result (List Module) Refusal) (r : Refusal) → r.place.file ≡ 0 → refusal_text (names_with name m) r ≡ refusal_text (name ∷ []) r
text_in name m r e =
    ap (λ (o : Option (List ℕ)). line_text (name_in o) r)
    (ap (slice_get (names_with name m)) e ∙ first_name name m ∙ sym (ap (slice_get (name ∷ [])) e))

refused_verdict : (held : Option Files) (name : List ℕ) (r : Refusal) → HasProject held name (Err r) → HasVerdict held name (Err r)
unfolding HasProject HasVerdict
refused_verdict None name r h = tt
refused_verdict (Some fs) name r h = subst (λ (x : Result (List (List ℕ)) Refusal). JudgesLoaded x (Err r)) (sym h) refl

refused_text : (held : Option Files) (name : List ℕ) (r : Refusal) → HasProject held name (Err r) → HasText held name (Err r) (refusal_text (name ∷ []) r)
unfolding HasProject HasText
refused_text None name r h = tt
refused_text (Some fs) name r h =
    let at : r.place.file ≡ 0 = subst (λ (x : Result (List (List ℕ)) Refusal). InProject x) h (loaded_in fs name) in
    text_in name (on_ok (bytes_at (first_place 0) (file_in fs name)) modules_of) r at

-- a project that could not be loaded
judged_refusal : (held : Option Files) (name : List ℕ) (r : Refusal) → HasProject held name (Err r) → Judged held name s.Refused (refusal_text (name ∷ []) r)
judged_refusal held name r h = record {
  verdict = Err r;
  is = refused_verdict held name r h;
  sound = tt;
  status_is = refl;
  text_is = refused_text held name r h;
}

-- the same, of the answer that is the refusal's line
pub judged_stop : (held : Option Files) (name : List ℕ) (halt : Halt) (a : Answer) (before now : ℕ) → Loads held name before now (Err (Halted halt)) → IsRefusalAnswer (name ∷ []) halt a
    → Judged held name a.status a.text
judged_stop held name (Refused r) a before now h e = subst (λ (b : Answer). Judged held name b.status b.text) (sym e) (judged_refusal held name r h)
judged_stop held name Memory a before now h e = absurd e
