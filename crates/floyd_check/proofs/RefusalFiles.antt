-- Each refusal of a verdict stands in a file of the project that has a name.
use Rattle.std.proofs.Common.{◌≡◌, ℕ, ◌+◌, nat_le, Bool, true, false, cond, List, [], ◌∷◌, length, map, Option, Some, None, Result, Ok, Err, refl, sym, subst, ap, ◌∙◌, arith}
use Rattle.std.specs.Prelude.{IsSome, slice_get}
use Rattle.std.specs.List.{flat_map}
use Rattle.floyd_text.specs.declared.place.Place.{Place}
use Rattle.floyd_text.specs.declared.code.Code.TheVariants.{FileTooLarge, ProjectTooLarge}
use Rattle.floyd_text.specs.declared.refusal.Refusal.{Refusal}
use Rattle.floyd_text.specs.declared.refusal.Shown.TheVariants.{Nothing}
use Rattle.floyd_text.specs.Outside.{Files, file_in, max_file}
use Rattle.floyd_text.specs.Place.{first_place}
use Rattle.floyd_text.specs.Refusals.{refusal_at}
use Rattle.floyd_lex.specs.declared.kinds.FileKind.TheVariants as kind
use Rattle.floyd_check_project.specs.declared.module.FileName.{FileName}
use Rattle.floyd_check_project.specs.declared.module.Module.{Module}
use Rattle.floyd_check_project.specs.declared.draft.Expected.TheVariants.{AModule}
use Rattle.floyd_check_project.specs.Lines.{lines_from}
use Rattle.floyd_check_project.specs.Project.{project_of, bad_project, read_lines}
use Rattle.floyd_check_stub.specs.Forms.{IsSpec, IsScript}
use Rattle.floyd_stub_soundness.specs.declared.program.MainProgram.{MainProgram}
use Rattle.floyd_check.specs.FileReading.{Follows, Then, InFile, ReadsFile, ReadsSource}
use Rattle.floyd_check.specs.Loading.{on_ok, bytes_at, within_all, named_at, next_file, files_from, files_of, built_modules, modules_of, loaded, names_with, names_in, max_files}
use Rattle.floyd_check.specs.Verdict.{judged, Judges, JudgesThree, JudgesModules, JudgesFiles, JudgesLoaded, IsVerdict}
use Rattle.floyd_check.proofs.OneModule.{one_module}

-- a refusal of loading stands in the project file
abbrev pub InProject : {A : Type 0} → Result A Refusal → Type 0
InProject (Ok a) = Unit {0}
InProject (Err r) = r.place.file ≡ 0

on_ok_in : {A B : Type 0} (r : Result A Refusal) (f : A → Result B Refusal) → InProject r → ((a : A) → InProject (f a)) → InProject (on_ok r f)
on_ok_in (Ok a) f h g = g a
on_ok_in (Err r) f h g = h

bytes_at_in : (place : Place) (o : Option (List ℕ)) → place.file ≡ 0 → InProject (bytes_at place o)
bytes_at_in place None e = e
bytes_at_in place (Some bytes) e = either (nat_le (length bytes) max_file)
  where
    either : (b : Bool) → InProject (cond b (Ok bytes) (Err (refusal_at FileTooLarge place Nothing)))
    either true = tt
    either false = e

within_in : (place : Place) (total : ℕ) (bytes : List ℕ) → place.file ≡ 0 → InProject (within_all place total bytes)
within_in place total bytes e = either (nat_le total max_files)
  where
    either : (b : Bool) → InProject (cond b (Ok bytes) (Err (refusal_at ProjectTooLarge place Nothing)))
    either true = tt
    either false = e

files_in : (held : Files) (project : List ℕ) (before : ℕ) (fs : List FileName) → InProject (files_from held project before fs)
files_in held project before [] = tt
files_in held project before (f ∷ fs) =
    on_ok_in (next_file held project before f) _
    (on_ok_in (bytes_at (named_at project f) (file_in held f.name)) _ (bytes_at_in (named_at project f) (file_in held f.name) refl)
    (λ bytes. within_in (named_at project f) (before + length bytes) bytes refl))
    (λ bytes. on_ok_in (files_from held project (before + length bytes) fs) _ (files_in held project (before + length bytes) fs) (λ rest. tt))

built_in : (modules : List Module) → InProject (built_modules modules)
built_in [] = tt
built_in (m ∷ []) = tt
built_in (m ∷ n ∷ ms) = refl

project_of_in : (bytes : List ℕ) (r : Result (List Module) ℕ) → InProject (bad_project bytes r)
project_of_in bytes (Ok modules) = tt
project_of_in bytes (Err at) = refl

modules_of_in : (project : List ℕ) → InProject (modules_of project)
modules_of_in project = on_ok_in (project_of project) built_modules (project_of_in project (read_lines (length project) (lines_from 0 project) AModule [])) built_in

-- the files of a project that has these bytes
abbrev files_for : Files → List ℕ → List Module → Result (List (List ℕ)) Refusal
files_for held project modules = on_ok (files_from held project 0 (flat_map files_of modules)) (λ files. Ok (project ∷ files))

files_for_in : (held : Files) (project : List ℕ) (modules : List Module) → InProject (files_for held project modules)
files_for_in held project modules =
    on_ok_in (files_from held project 0 (flat_map files_of modules)) (λ files. Ok (project ∷ files)) (files_in held project 0 (flat_map files_of modules)) (λ files. tt)

pub loaded_in : (held : Files) (name : List ℕ) → InProject (loaded held name)
loaded_in held name =
    on_ok_in (bytes_at (first_place 0) (file_in held name)) (λ project. on_ok (modules_of project) (files_for held project))
    (bytes_at_in (first_place 0) (file_in held name) refl)
    (λ project. on_ok_in (modules_of project) (files_for held project) (modules_of_in project) (files_for_in held project))

-- the file of this number has a name among these
abbrev IsThere : List (List ℕ) → ℕ → Type 0
IsThere names file = IsSome (slice_get names file)

-- the first name is the project's
first_there : (name : List ℕ) (m : Result (List Module) Refusal) (r : Refusal) → r.place.file ≡ 0 → IsThere (names_with name m) r.place.file
first_there name m r e = subst (IsThere (names_with name m)) (sym e) (by_modules m)
  where
    by_modules : (m : Result (List Module) Refusal) → IsThere (names_with name m) 0
    by_modules (Ok modules) = refl
    by_modules (Err q) = refl

-- a refusal is one of the first, or one of the next
then_there : {X Y : Type 0} (names : List (List ℕ)) (First : Result X Refusal → Type 0) (Next : X → Result Y Refusal → Type 0) (r : Refusal)
    → ((q : Refusal) → First (Err q) → IsThere names q.place.file) → ((x : X) → Next x (Err r) → IsThere names r.place.file)
    → Then First Next (Err r) → IsThere names r.place.file
then_there {X} {Y} names First Next r of_first of_next h = by_first h.first h.is_first h.next
  where
    by_first : (f : Result X Refusal) → First f → Follows Next f (Err r) → IsThere names r.place.file
    by_first (Ok x) is next = of_next x next
    by_first (Err q) is next =
        let same : q ≡ r = cc in
        subst (λ (s : Refusal). IsThere names s.place.file) same (of_first q is)

in_there : {X : Type 0} (names : List (List ℕ)) (file : ℕ) (Reads : Result X Refusal → Type 0) → IsThere names file → (r : Refusal) → InFile file Reads (Err r) → IsThere names r.place.file
in_there names file Reads there r h = subst (λ (s : Refusal). IsThere names s.place.file) (sym h.2) there

module _ (names : List (List ℕ)) (one : IsThere names 1) (two : IsThere names 2) (three : IsThere names 3) where
  module_there : (source spec script : List ℕ) (r : Refusal) → Judges source spec script (Err r) → IsThere names r.place.file
  module_there source spec script r =
      then_there names (InFile 1 (ReadsSource source)) _ r (in_there names 1 (ReadsSource source) one)
      (λ m. then_there names (InFile 2 (ReadsFile IsSpec kind.Spec 2 spec)) _ r (in_there names 2 (ReadsFile IsSpec kind.Spec 2 spec) two)
      (λ n. then_there names (InFile 3 (ReadsFile IsScript kind.Script 3 script)) _ r (in_there names 3 (ReadsFile IsScript kind.Script 3 script) three)
      (λ p. in_there names 3 (λ v. v ≡ judged m n p) three r)))

  three_there : (files : List (List ℕ)) (r : Refusal) → JudgesThree files (Err r) → IsThere names r.place.file
  three_there [] r h = absurd h
  three_there (x ∷ []) r h = absurd h
  three_there (x ∷ y ∷ []) r h = absurd h
  three_there (x ∷ y ∷ z ∷ []) r h = module_there x y z r h
  three_there (x ∷ y ∷ z ∷ w ∷ ws) r h = absurd h

one_there : (name : List ℕ) (modules : List Module) (files : List (List ℕ)) (r : Refusal) → length modules ≡ 1 → JudgesThree files (Err r)
    → IsThere (names_with name (Ok modules)) r.place.file
one_there name [] files r len h = absurd (omega (arith, len))
one_there name (m ∷ []) files r len h = three_there (names_with name (Ok (m ∷ []))) refl refl refl files r h
one_there name (m ∷ n ∷ ms) files r len h = absurd (omega (arith, len))

module _ (held : Files) (name : List ℕ) where
  -- of a project that was refused before its files were judged
  refused_there : (m : Result (List Module) Refusal) (q r : Refusal) → q.place.file ≡ 0 → JudgesLoaded (Err q) (Err r) → IsThere (names_with name m) r.place.file
  refused_there m q r h j =
      let same : r ≡ q = cc in
      first_there name m r (ap (λ (s : Refusal). s.place.file) same ∙ h)

  by_files : (project : List ℕ) (modules : List Module) (l : Result (List (List ℕ)) Refusal) (r : Refusal) → modules_of project ≡ Ok modules → InProject (on_ok l (λ files. Ok (project ∷ files)))
      → JudgesLoaded (on_ok l (λ files. Ok (project ∷ files))) (Err r) → IsThere (names_with name (Ok modules)) r.place.file
  by_files project modules (Err q) r e h j = refused_there (Ok modules) q r h j
  by_files project modules (Ok files) r e h j =
      one_there name modules files r (one_module project modules e) (subst (λ (m : Result (List Module) Refusal). JudgesModules m files (Err r)) e j)

  by_modules : (project : List ℕ) (m : Result (List Module) Refusal) (r : Refusal) → modules_of project ≡ m → InProject (on_ok m (files_for held project))
      → JudgesLoaded (on_ok m (files_for held project)) (Err r) → IsThere (names_with name m) r.place.file
  by_modules project (Err q) r e h j = refused_there (Err q) q r h j
  by_modules project (Ok modules) r e h j = by_files project modules (files_from held project 0 (flat_map files_of modules)) r e h j

  by_project : (p : Result (List ℕ) Refusal) (r : Refusal) → InProject (on_ok p (λ project. on_ok (modules_of project) (files_for held project)))
      → JudgesLoaded (on_ok p (λ project. on_ok (modules_of project) (files_for held project))) (Err r) → IsThere (names_with name (on_ok p modules_of)) r.place.file
  by_project (Err q) r h j = refused_there (Err q) q r h j
  by_project (Ok project) r h j = by_modules project (modules_of project) r refl h j

pub refusals_have_files : (held : Files) (name : List ℕ) (r : Refusal) → IsVerdict held name (Err r) → IsSome (slice_get (names_in held name) r.place.file)
refusals_have_files held name r h = by_project held name (bytes_at (first_place 0) (file_in held name)) r (loaded_in held name) h
