-- A project has one verdict at most.
use Rattle.std.proofs.Common.{◌≡◌, ℕ, List, [], ◌∷◌, Result, Ok, Err, sym, ap, subst, ◌∙◌}
use Rattle.floyd_text.specs.declared.refusal.Refusal.{Refusal}
use Rattle.floyd_text.specs.Outside.{Files}
use Rattle.floyd_lex.specs.declared.kinds.FileKind.{FileKind}
use Rattle.floyd_lex.specs.declared.kinds.FileKind.TheVariants as kind
use Rattle.floyd_lex.specs.Cuts.{IsCut}
use Rattle.floyd_lex.specs.Token.{Token, tokens_in}
use Rattle.floyd_lex.proofs.OneCut.{same_answer}
use Rattle.floyd_cparse.specs.Source.{IsRead}
use Rattle.floyd_cparse.proofs.SourceLemmas as source
use Rattle.floyd_check_project.specs.declared.module.Module.{Module}
use Rattle.floyd_check_stub.specs.Forms.{IsSpec, IsScript}
use Rattle.floyd_check_stub.proofs.SpecForm.{same_spec}
use Rattle.floyd_check_stub.proofs.ScriptForm.{same_script}
use Rattle.floyd_elab.specs.Units.{elaboration}
use Rattle.floyd_check_stub.specs.MainForm.{main_in}
use Rattle.floyd_stub_soundness.specs.declared.program.MainProgram.{MainProgram}
use Rattle.floyd_check.specs.FileReading.{Follows, Then, InFile, in_file, ReadsTokens, ReadsFile, ReadsSource, built}
use Rattle.floyd_check.specs.Loading.{modules_of, loaded}
use Rattle.floyd_check.specs.Verdict.{judged, Judges, JudgesThree, JudgesModules, JudgesFiles, JudgesLoaded, IsVerdict}

-- there is one at most
abbrev IsOne : {X : Type 0} → (X → Type 0) → Type 0
IsOne {X} P = (a b : X) → P a → P b → a ≡ b

-- where there is one first at most, and one next
one_then : {X Y : Type 0} (First : Result X Refusal → Type 0) (Next : X → Result Y Refusal → Type 0) → IsOne First → ((x : X) → IsOne (Next x)) → IsOne (Then First Next)
one_then {X} {Y} First Next one more v w a b = by_first b.first (subst (λ (r : Result X Refusal). Follows Next r v) (one a.first b.first a.is_first b.is_first) a.next) b.next
  where
    by_first : (r : Result X Refusal) → Follows Next r v → Follows Next r w → v ≡ w
    by_first (Ok x) h k = more x v w h k
    by_first (Err r) h k = h ∙ sym k

one_reading : {X : Type 0} (Form : List Token → X → Type 0) (file : ℕ) (ts : List Token) → IsOne (Form ts) → IsOne (ReadsTokens Form file ts)
one_reading Form file ts one (Ok x) (Ok y) h k = ap Ok (one x y h k)
one_reading Form file ts one (Ok x) (Err r) h k = absurd (k.0 x h)
one_reading Form file ts one (Err r) (Ok y) h k = absurd (h.0 y k)
one_reading Form file ts one (Err r) (Err s) h k = ap Err (h.1 ∙ sym k.1)

one_file : {X : Type 0} (Form : List Token → X → Type 0) (kind : FileKind) (file : ℕ) (bytes : List ℕ) → ((ts : List Token) → IsOne (Form ts)) → IsOne (ReadsFile Form kind file bytes)
one_file Form kind file bytes one =
    one_then (IsCut kind file bytes) (λ list. ReadsTokens Form file (tokens_in bytes list)) (same_answer kind file bytes)
    (λ list. one_reading Form file (tokens_in bytes list) (one (tokens_in bytes list)))

one_source : (bytes : List ℕ) → IsOne (ReadsSource bytes)
one_source bytes =
    one_then (IsCut kind.Source 1 bytes) _ (same_answer kind.Source 1 bytes)
    (λ list. one_then (IsRead 1 bytes list) _ (source.one_reading 1 bytes list)
    (λ tree. one_then (λ unit. unit ≡ elaboration tree) (λ unit v. v ≡ built (main_in unit)) (λ a b h k. h ∙ sym k)
    (λ unit v w h k. h ∙ sym k)))

abbrev err : {X : Type 0} → Refusal → Result X Refusal
err r = Err r

same_refusal : {X : Type 0} {r s : Refusal} → err {X = X} r ≡ err s → r ≡ s
same_refusal e = cc

-- where there is one reading at most, there is one in the file
one_in : {X : Type 0} (file : ℕ) (Reads : Result X Refusal → Type 0) → IsOne Reads → IsOne (InFile file Reads)
one_in file Reads one (Ok x) (Ok y) h k = one (Ok x) (Ok y) h k
one_in file Reads one (Ok x) (Err r) h k = absurd (other (one (Ok x) (Err k.0) h k.1))
  where
    other : Ok x ≡ Err k.0 → ⊥
    other e = cc
one_in file Reads one (Err r) (Ok y) h k = absurd (other (one (Err h.0) (Ok y) h.1 k))
  where
    other : Err h.0 ≡ Ok y → ⊥
    other e = cc
one_in file Reads one (Err r) (Err s) h k = ap Err (h.2 ∙ ap (in_file file) (same_refusal (one (Err h.0) (Err k.0) h.1 k.1)) ∙ sym k.2)

one_module : (source spec script : List ℕ) → IsOne (Judges source spec script)
one_module source spec script =
    one_then (InFile 1 (ReadsSource source)) _ (one_in 1 (ReadsSource source) (one_source source))
    (λ m. one_then (InFile 2 (ReadsFile IsSpec kind.Spec 2 spec)) _ (one_in 2 (ReadsFile IsSpec kind.Spec 2 spec) (one_file IsSpec kind.Spec 2 spec same_spec))
    (λ n. one_then (InFile 3 (ReadsFile IsScript kind.Script 3 script)) _ (one_in 3 (ReadsFile IsScript kind.Script 3 script) (one_file IsScript kind.Script 3 script same_script))
    (λ s. one_in 3 (λ v. v ≡ judged m n s) (λ v w h k. h ∙ sym k))))

one_of_three : (files : List (List ℕ)) (v w : Result MainProgram Refusal) → JudgesThree files v → JudgesThree files w → v ≡ w
one_of_three [] v w a b = absurd a
one_of_three (x ∷ []) v w a b = absurd a
one_of_three (x ∷ y ∷ []) v w a b = absurd a
one_of_three (x ∷ y ∷ z ∷ []) v w a b = one_module x y z v w a b
one_of_three (x ∷ y ∷ z ∷ file ∷ files) v w a b = absurd a

one_of_modules : (modules : Result (List Module) Refusal) (files : List (List ℕ)) (v w : Result MainProgram Refusal) → JudgesModules modules files v → JudgesModules modules files w → v ≡ w
one_of_modules (Err r) files v w a b = a ∙ sym b
one_of_modules (Ok modules) files v w a b = one_of_three files v w a b

one_of_files : (files : List (List ℕ)) (v w : Result MainProgram Refusal) → JudgesFiles files v → JudgesFiles files w → v ≡ w
one_of_files [] v w a b = absurd a
one_of_files (project ∷ files) v w a b = one_of_modules (modules_of project) files v w a b

one_of_loaded : (r : Result (List (List ℕ)) Refusal) (v w : Result MainProgram Refusal) → JudgesLoaded r v → JudgesLoaded r w → v ≡ w
one_of_loaded (Err r) v w a b = a ∙ sym b
one_of_loaded (Ok files) v w a b = one_of_files files v w a b

pub one_verdict : (held : Files) (name : List ℕ) (v w : Result MainProgram Refusal) → IsVerdict held name v → IsVerdict held name w → v ≡ w
one_verdict held name v w a b = one_of_loaded (loaded held name) v w a b
