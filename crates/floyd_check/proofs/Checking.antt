-- What the verdict on a module is, by what its files read as and by the play of its proof.
use Rattle.std.proofs.Common.{◌≡◌, ℕ, List, [], ◌∷◌, length, get_or, Result, Ok, Err, refl, sym, ap, subst, ◌∙◌, arith}
use Rattle.floyd_text.specs.declared.refusal.Refusal.{Refusal}
use Rattle.floyd_text.specs.declared.refusal.Halt.{Halt}
use Rattle.floyd_text.specs.declared.refusal.Halt.TheVariants.{Refused, Memory}
use Rattle.std.specs.Prelude.{IfOk}
use Rattle.floyd_text.specs.Gives.{Gives, Stops}
use Rattle.floyd_lex.specs.declared.kinds.FileKind.TheVariants as kind
use Rattle.floyd_check_project.specs.declared.module.Module.{Module}
use Rattle.floyd_clight.specs.declared.syntax.Stmt.{Stmt}
use Rattle.floyd_check_stub.specs.Forms.{IsSpec, IsScript}
use Rattle.floyd_stub_goal.specs.declared.script.Proof.{Proof}
use Rattle.floyd_stub_goal.specs.Starts.{main_start}
use Rattle.floyd_stub_play.specs.Derivation.{played}
use Rattle.floyd_stub_soundness.specs.declared.program.MainProgram.{MainProgram}
use Rattle.floyd_stub_soundness.specs.Programs.{Acceptance, IsAccepted, accepted, spec_of}
use Rattle.floyd_check.specs.FileReading.{InFile, ReadsFile, ReadsSource, in_file}
use Rattle.floyd_check.specs.Loading.{modules_of}
use Rattle.floyd_check.specs.Checked.{ChecksBy, Checks, ChecksThree}
use Rattle.floyd_check.specs.CheckedClauses.{Answers, ChecksModule, said_in}
use Rattle.floyd_check.specs.Verdict.{Judges, JudgesThree, JudgesModules, AreFiles, HasAllFiles, KeepLimits, judged, then_program}

-- an answer of a call that reads the file of this number
pub answers_in : {X : Type 0} (file : ℕ) (Reads : Result X Refusal → Type 0) (r : Result X Halt) → Answers Reads r → Answers (InFile file Reads) (said_in file r)
answers_in file Reads (Ok x) h = h
answers_in file Reads (Err (Refused r)) h = (r, h, refl)
answers_in file Reads (Err Memory) h = tt

-- the same, where that answer was said
pub heard_in : {X : Type 0} (file : ℕ) (Reads : Result X Refusal → Type 0) (r said : Result X Halt) → Answers Reads r → said ≡ said_in file r → Answers (InFile file Reads) said
heard_in file Reads r said h e = subst (Answers (InFile file Reads)) (sym e) (answers_in file Reads r h)

module _ (name source spec script : List ℕ) where
  -- the source is refused
  pub source_stops : (halt : Halt) → Answers (InFile 1 (ReadsSource source)) (Err halt) → ChecksModule name source spec script (Err halt)
  source_stops (Refused r) h = record { first = Err r; is_first = h; next = refl }
  source_stops Memory h = tt

  module _ (statements : List Stmt) (reads_main : InFile 1 (ReadsSource source) (Ok statements)) where
    -- the specification is
    pub spec_stops : (halt : Halt) → Answers (InFile 2 (ReadsFile IsSpec kind.Spec 2 spec)) (Err halt) → ChecksModule name source spec script (Err halt)
    spec_stops (Refused r) h = record { first = Ok statements; is_first = reads_main; next = record { first = Err r; is_first = h; next = refl } }
    spec_stops Memory h = tt

    module _ (n : ℕ) (reads_spec : InFile 2 (ReadsFile IsSpec kind.Spec 2 spec) (Ok n)) where
      -- the script is
      pub script_stops : (halt : Halt) → Answers (InFile 3 (ReadsFile IsScript kind.Script 3 script)) (Err halt) → ChecksModule name source spec script (Err halt)
      script_stops (Refused r) h = record {
        first = Ok statements;
        is_first = reads_main;
        next = record { first = Ok n; is_first = reads_spec; next = record { first = Err r; is_first = h; next = refl } };
      }
      script_stops Memory h = tt

      module _ (proof : Proof) (reads_script : InFile 3 (ReadsFile IsScript kind.Script 3 script) (Ok proof)) where
        -- all three are read
        judges_read : (v : Result MainProgram Refusal) → InFile 3 (λ w. w ≡ judged statements n proof) v → Judges source spec script v
        judges_read v h = record {
          first = Ok statements;
          is_first = reads_main;
          next = record { first = Ok n; is_first = reads_spec; next = record { first = Ok proof; is_first = reads_script; next = h } };
        }

        abbrev program : MainProgram
        program = record { statements = statements; value = n }

        -- the proof plays through, or is refused
        pub plays : (r : Result Acceptance Halt) → Gives (λ a. tt) r (played proof (main_start statements (spec_of n))) → IfOk r (λ a. a ≡ accepted name program) → IfOk r IsAccepted
            → ChecksModule name source spec script (said_in 3 r)
        plays (Ok a) played_through is sound =
            let same : Ok a.program ≡ judged statements n proof = ap (λ (x : Acceptance). Ok x.program) is ∙ sym (ap (then_program program) played_through) in
            (judges_read (Ok a.program) same, sound, ap (λ (x : Acceptance). x.project) is)
        plays (Err (Refused r)) stops is sound = judges_read (Err (in_file 3 r)) (r, sym (ap (then_program program) stops), refl)
        plays (Err Memory) stops is sound = tt

-- the bytes of a project, and of its files
pub all_files : (all : List (List ℕ)) (project : List ℕ) (files : List (List ℕ)) → AreFiles all → all ≡ project ∷ files → HasAllFiles (modules_of project) files × KeepLimits project files
all_files all project files h e = subst AreFiles e h

pub three_in_order : (name : List ℕ) (files : List (List ℕ)) (a b c : List ℕ) (r : Result Acceptance Halt) → length files ≡ 3 → a ≡ get_or files 0 a → b ≡ get_or files 1 b → c ≡ get_or files 2 c
    → ChecksModule name a b c r → ChecksThree name files r
three_in_order name [] a b c r len ea eb ec h = absurd (omega (arith, len))
three_in_order name (x ∷ []) a b c r len ea eb ec h = absurd (omega (arith, len))
three_in_order name (x ∷ y ∷ []) a b c r len ea eb ec h = absurd (omega (arith, len))
three_in_order name (x ∷ y ∷ z ∷ []) a b c r len ea eb ec h =
    subst (λ (p : List ℕ). ChecksModule name p y z r) ea (subst (λ (p : List ℕ). ChecksModule name a p z r) eb (subst (λ (p : List ℕ). ChecksModule name a b p r) ec h))
three_in_order name (x ∷ y ∷ z ∷ w ∷ ws) a b c r len ea eb ec h = absurd (omega (arith, len))

-- the verdict on the files of a project that is built
pub checks_files : (name project : List ℕ) (files : List (List ℕ)) (modules : List Module) (r : Result Acceptance Halt) → modules_of project ≡ Ok modules
    → ChecksThree name files r → Checks name (project ∷ files) r
checks_files name project files modules r e h = subst (λ (m : Result (List Module) Refusal). ChecksBy (JudgesModules m files) name r) (sym e) h

-- the project file itself is refused
pub checks_project : (name project : List ℕ) (files : List (List ℕ)) (halt : Halt) → Stops halt (modules_of project) → Checks name (project ∷ files) (Err halt)
checks_project name project files (Refused r) e = subst (λ (m : Result (List Module) Refusal). JudgesModules m files (Err r)) (sym e) refl
checks_project name project files Memory e = tt
