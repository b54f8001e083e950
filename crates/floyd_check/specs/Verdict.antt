-- The verdict on a project: it is accepted, or refused. The verdict looks at texts and derivations, and at no run.
use Rattle.std.specs.Prelude.{◌≡◌, ℕ, ◌*◌, ◌≤◌, List, [], ◌∷◌, length, Result, Ok, Err, All}
use Rattle.std.specs.List.{sum_by}
use Rattle.floyd_text.specs.declared.refusal.Refusal.{Refusal}
use Rattle.floyd_text.specs.Outside.{Files, max_file}
use Rattle.floyd_lex.specs.declared.kinds.FileKind.TheVariants as kind
use Rattle.floyd_check_project.specs.declared.module.Module.{Module}
use Rattle.floyd_clight.specs.declared.syntax.Stmt.{Stmt}
use Rattle.floyd_stub_goal.specs.declared.script.Proof.{Proof}
use Rattle.floyd_stub_goal.specs.Starts.{main_start}
use Rattle.floyd_stub_play.specs.Derivation.{played}
use Rattle.floyd_stub_soundness.specs.declared.program.MainProgram.{MainProgram}
use Rattle.floyd_stub_soundness.specs.Programs.{spec_of}
use Rattle.floyd_check_stub.specs.Forms.{IsSpec, IsScript}
use Rattle.floyd_check.specs.FileReading.{Then, InFile, ReadsFile, ReadsSource}
use Rattle.floyd_check.specs.Loading.{max_files, modules_of, loaded}

abbrev pub then_program : MainProgram → Result (Unit {0}) Refusal → Result MainProgram Refusal
then_program p (Ok u) = Ok p
then_program p (Err r) = Err r

-- the proof is played on the start that source and specification give
abbrev pub judged : List Stmt → ℕ → Proof → Result MainProgram Refusal
judged statements n proof =
    then_program (record { statements = statements; value = n }) (played proof (main_start statements (spec_of n)))

-- The verdict on the three files of a module, numbered 1 to 3: first the source is read, then the specification, then
-- the script, and then the proof is played. The first refusal is the verdict, in the file in which it was met.
abbrev pub Judges : List ℕ → List ℕ → List ℕ → Result MainProgram Refusal → Type 0
Judges source spec script =
    Then (InFile 1 (ReadsSource source)) (λ statements.
    Then (InFile 2 (ReadsFile IsSpec kind.Spec 2 spec)) (λ n.
    Then (InFile 3 (ReadsFile IsScript kind.Script 3 script)) (λ proof.
    InFile 3 (λ v. v ≡ judged statements n proof))))

-- the verdict on the files of the one module that is built
abbrev pub JudgesThree : List (List ℕ) → Result MainProgram Refusal → Type 0
JudgesThree [] v = ⊥
JudgesThree (source ∷ []) v = ⊥
JudgesThree (source ∷ spec ∷ []) v = ⊥
JudgesThree (source ∷ spec ∷ script ∷ []) v = Judges source spec script v
JudgesThree (source ∷ spec ∷ script ∷ file ∷ files) v = ⊥

-- the verdict on the files of the modules
abbrev pub JudgesModules : Result (List Module) Refusal → List (List ℕ) → Result MainProgram Refusal → Type 0
JudgesModules (Err r) files v = v ≡ Err r
JudgesModules (Ok modules) files v = JudgesThree files v

-- the verdict on the bytes of a project and of its files
abbrev pub JudgesFiles : List (List ℕ) → Result MainProgram Refusal → Type 0
JudgesFiles [] v = ⊥
JudgesFiles (project ∷ files) v = JudgesModules (modules_of project) files v

-- the verdict on what was loaded
abbrev pub JudgesLoaded : Result (List (List ℕ)) Refusal → Result MainProgram Refusal → Type 0
JudgesLoaded (Err r) v = v ≡ Err r
JudgesLoaded (Ok files) v = JudgesFiles files v

-- the verdict on the project of that name in the held files
abbrev pub IsVerdict : Files → List ℕ → Result MainProgram Refusal → Type 0
IsVerdict held name v = JudgesLoaded (loaded held name) v

-- a project has the three files of each of its modules
abbrev pub HasAllFiles : Result (List Module) Refusal → List (List ℕ) → Type 0
HasAllFiles (Err r) files = Unit {0}
HasAllFiles (Ok modules) files = length files ≡ 3 * length modules

-- no file has more bytes than a file may have, and those of the project together have no more than they may
pub record KeepLimits (project : List ℕ) (files : List (List ℕ)) : Type 0 where
  pub project_small : length project ≤ max_file
  pub files_small : All (λ bytes. length bytes ≤ max_file) files
  pub all_small : sum_by length files ≤ max_files

-- The bytes are those of a project, and then of its files in order, within the limits.
abbrev pub AreFiles : List (List ℕ) → Type 0
AreFiles [] = ⊥
AreFiles (project ∷ files) = HasAllFiles (modules_of project) files × KeepLimits project files
