-- Each project has a verdict.
use Rattle.std.proofs.Common.{◌≡◌, ℕ, ◌+◌, List, [], ◌∷◌, length, Option, Some, None, Result, Ok, Err, refl, sym, ap, subst, ◌∙◌, arith}
use Rattle.std.specs.List.{flat_map}
use Rattle.floyd_text.specs.declared.refusal.Refusal.{Refusal}
use Rattle.floyd_text.specs.Outside.{Files, file_in}
use Rattle.floyd_text.specs.Place.{first_place}
use Rattle.floyd_lex.specs.declared.kinds.FileKind.{FileKind}
use Rattle.floyd_lex.specs.declared.kinds.FileKind.TheVariants as kind
use Rattle.floyd_lex.specs.Cuts.{IsCut}
use Rattle.floyd_lex.specs.Token.{Token, tokens_in}
use Rattle.floyd_cparse.specs.Source.{IsRead}
use Rattle.floyd_elab.specs.Units.{elaboration}
use Rattle.floyd_check_project.specs.declared.module.FileName.{FileName}
use Rattle.floyd_check_project.specs.declared.module.Module.{Module}
use Rattle.floyd_check_stub.specs.Forms.{ReadsAs, IsSpec, IsScript, texts}
use Rattle.floyd_check_stub.specs.MainForm.{main_in}
use Rattle.floyd_check_stub.specs.ReadingClauses.{spec_of, script_of}
use Rattle.floyd_check_stub.proofs.SpecForm.{spec_reads}
use Rattle.floyd_check_stub.proofs.ScriptForm.{script_reads}
use Rattle.floyd_stub_soundness.specs.declared.program.MainProgram.{MainProgram}
use Rattle.floyd_check.specs.FileReading.{Then, InFile, in_file, not_built, ReadsTokens, ReadsFile, ReadsSource, built}
use Rattle.floyd_check.specs.Loading.{bytes_at, next_file, files_from, files_of, modules_of, loaded, on_ok}
use Rattle.floyd_check.specs.Verdict.{judged, Judges, JudgesThree, JudgesModules, JudgesLoaded, IsVerdict}
use Rattle.floyd_check.proofs.HasCut.{has_cut}
use Rattle.floyd_check.proofs.HasReading.{has_reading}
use Rattle.floyd_check.proofs.OneModule.{one_module}

abbrev Has : {X : Type 0} → (X → Type 0) → Type 0
Has {X} P = (x : X) × P x

has_then : {X Y : Type 0} (First : Result X Refusal → Type 0) (Next : X → Result Y Refusal → Type 0) → Has First → ((x : X) → Has (Next x)) → Has (Then First Next)
has_then First Next (Ok x, h) more =
    let next = more x in
    (next.0, record { first = Ok x; is_first = h; next = next.1 })
has_then First Next (Err r, h) more = (Err r, record { first = Err r; is_first = h; next = refl })

has_in : {X : Type 0} (file : ℕ) (Reads : Result X Refusal → Type 0) → Has Reads → Has (InFile file Reads)
has_in file Reads (Ok x, h) = (Ok x, h)
has_in file Reads (Err r, h) = (Err (in_file file r), (r, h, refl))

has_form : {X : Type 0} (Form : List Token → X → Type 0) (file : ℕ) (ts : List Token) (o : Option X) → ReadsAs (Form ts) o → Has (ReadsTokens Form file ts)
has_form Form file ts (Some x) h = (Ok x, h)
has_form Form file ts None h = (Err (not_built file), (h, refl))

has_file : {X : Type 0} (Form : List Token → X → Type 0) (read : List Token → Option X) (kind : FileKind) (file : ℕ) (bytes : List ℕ)
    → ((ts : List Token) → ReadsAs (Form ts) (read ts)) → Has (ReadsFile Form kind file bytes)
has_file Form read kind file bytes reads =
    has_then (IsCut kind file bytes) _ (has_cut kind file bytes)
    (λ list. has_form Form file (tokens_in bytes list) (read (tokens_in bytes list)) (reads (tokens_in bytes list)))

has_source : (bytes : List ℕ) → Has (ReadsSource bytes)
has_source bytes =
    has_then (IsCut kind.Source 1 bytes) _ (has_cut kind.Source 1 bytes)
    (λ list. has_then (IsRead 1 bytes list) _ (has_reading 1 bytes list)
    (λ tree. has_then (λ unit. unit ≡ elaboration tree) (λ unit v. v ≡ built (main_in unit)) (elaboration tree, refl)
    (λ unit. (built (main_in unit), refl))))

has_module : (source spec script : List ℕ) → Has (Judges source spec script)
has_module source spec script =
    has_then (InFile 1 (ReadsSource source)) _ (has_in 1 (ReadsSource source) (has_source source))
    (λ m. has_then (InFile 2 (ReadsFile IsSpec kind.Spec 2 spec)) _ (has_in 2 (ReadsFile IsSpec kind.Spec 2 spec) (has_file IsSpec (λ ts. spec_of (texts ts)) kind.Spec 2 spec spec_reads))
    (λ n. has_then (InFile 3 (ReadsFile IsScript kind.Script 3 script)) _ (has_in 3 (ReadsFile IsScript kind.Script 3 script) (has_file IsScript script_of kind.Script 3 script script_reads))
    (λ s. has_in 3 (λ v. v ≡ judged m n s) (judged m n s, refl))))

has_three : (files : List (List ℕ)) → length files ≡ 3 → Has (JudgesThree files)
has_three [] len = absurd (omega (arith, len))
has_three (x ∷ []) len = absurd (omega (arith, len))
has_three (x ∷ y ∷ []) len = absurd (omega (arith, len))
has_three (x ∷ y ∷ z ∷ []) len = has_module x y z
has_three (x ∷ y ∷ z ∷ w ∷ ws) len = absurd (omega (arith, len))

-- as many files are had as are named
module _ (held : Files) (project : List ℕ) where
  after_next : (before : ℕ) (fs : List FileName) (files : List (List ℕ)) (next : Result (List ℕ) Refusal)
      → ((bytes : List ℕ) (rest : List (List ℕ)) → files_from held project (before + length bytes) fs ≡ Ok rest → length rest ≡ length fs)
      → on_ok next (λ bytes. on_ok (files_from held project (before + length bytes) fs) (λ rest. Ok (bytes ∷ rest))) ≡ Ok files → length files ≡ length fs + 1
  after_next before fs files (Err r) more e = absurd (cc)
  after_next before fs files (Ok bytes) more e = by_rest (files_from held project (before + length bytes) fs) refl e
    where
      by_rest : (r : Result (List (List ℕ)) Refusal) → files_from held project (before + length bytes) fs ≡ r → on_ok r (λ rest. Ok (bytes ∷ rest)) ≡ Ok files → length files ≡ length fs + 1
      by_rest (Err r) is e = absurd (cc)
      by_rest (Ok rest) is e =
          let same : bytes ∷ rest ≡ files = cc in
          omega (arith, more bytes rest is, ap length same)

  as_many : (before : ℕ) (fs : List FileName) (files : List (List ℕ)) → files_from held project before fs ≡ Ok files → length files ≡ length fs
  as_many before [] files e =
      let same : [] ≡ files = cc in
      omega (arith, ap length same)
  as_many before (f ∷ fs) files e = omega (arith, after_next before fs files (next_file held project before f) (λ bytes rest. as_many (before + length bytes) fs rest) e)

-- the files of one module
pub named_three : (modules : List Module) → length modules ≡ 1 → length (flat_map files_of modules) ≡ 3
named_three [] len = absurd (omega (arith, len))
named_three (m ∷ []) len = refl
named_three (m ∷ n ∷ ms) len = absurd (omega (arith, len))

module _ (held : Files) where
  has_files : (project : List ℕ) (modules : List Module) (r : Result (List (List ℕ)) Refusal) → modules_of project ≡ Ok modules
      → files_from held project 0 (flat_map files_of modules) ≡ r → Has (JudgesLoaded (on_ok r (λ files. Ok (project ∷ files))))
  has_files project modules (Err r) e is = (Err r, refl)
  has_files project modules (Ok files) e is =
      let len : length files ≡ 3 = as_many held project 0 (flat_map files_of modules) files is ∙ named_three modules (one_module project modules e) in
      let v = has_three files len in
      (v.0, subst (λ (m : Result (List Module) Refusal). JudgesModules m files v.0) (sym e) v.1)

  has_modules : (project : List ℕ) (r : Result (List Module) Refusal) → modules_of project ≡ r
      → Has (JudgesLoaded (on_ok r (λ modules. on_ok (files_from held project 0 (flat_map files_of modules)) (λ files. Ok (project ∷ files)))))
  has_modules project (Err r) e = (Err r, refl)
  has_modules project (Ok modules) e = has_files project modules (files_from held project 0 (flat_map files_of modules)) e refl

  has_project : (r : Result (List ℕ) Refusal)
      → Has (JudgesLoaded (on_ok r (λ project. on_ok (modules_of project) (λ modules. on_ok (files_from held project 0 (flat_map files_of modules)) (λ files. Ok (project ∷ files))))))
  has_project (Err r) = (Err r, refl)
  has_project (Ok project) = has_modules project (modules_of project) refl

pub has_verdict : (held : Files) (name : List ℕ) → (v : Result MainProgram Refusal) × IsVerdict held name v
has_verdict held name = has_project held (bytes_at (first_place 0) (file_in held name))
