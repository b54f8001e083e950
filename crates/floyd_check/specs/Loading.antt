-- The files of a project, as far as they can be had.
use Rattle.std.specs.Prelude.{ℕ, ◌+◌, nat_le, if◌then◌else◌, List, [], ◌∷◌, length, map, Option, Some, None, Result, Ok, Err}
use Rattle.std.specs.List.{flat_map}
use Rattle.floyd_text.specs.declared.code.Code.TheVariants.{MissingFile, FileTooLarge, ProjectTooLarge, NotBuilt}
use Rattle.floyd_text.specs.declared.place.Place.{Place}
use Rattle.floyd_text.specs.declared.refusal.Refusal.{Refusal}
use Rattle.floyd_text.specs.declared.refusal.Shown.TheVariants.{Nothing}
use Rattle.floyd_text.specs.Place.{place_at, first_place}
use Rattle.floyd_text.specs.Outside.{Files, file_in, max_file}
use Rattle.floyd_text.specs.Refusals.{refusal_at}
use Rattle.floyd_check_project.specs.declared.module.FileName.{FileName}
use Rattle.floyd_check_project.specs.declared.module.Module.{Module}
use Rattle.floyd_check_project.specs.Project.{project_of}

-- the most bytes of all files but the project
abbrev pub max_files : ℕ
max_files = 16777216

-- what comes after what was had
abbrev pub on_ok : {A B : Type 0} → Result A Refusal → (A → Result B Refusal) → Result B Refusal
on_ok (Ok a) f = f a
on_ok (Err r) f = Err r

-- the bytes of the file that is named at this place: it may be missing, or too large
abbrev pub bytes_at : Place → Option (List ℕ) → Result (List ℕ) Refusal
bytes_at place None = Err (refusal_at MissingFile place Nothing)
bytes_at place (Some bytes) = if nat_le (length bytes) max_file then Ok bytes else Err (refusal_at FileTooLarge place Nothing)

-- the bytes, unless with them all files so far have too many
abbrev pub within_all : Place → ℕ → List ℕ → Result (List ℕ) Refusal
within_all place total bytes = if nat_le total max_files then Ok bytes else Err (refusal_at ProjectTooLarge place Nothing)

-- the place at which the project file names a file
abbrev pub named_at : List ℕ → FileName → Place
named_at project file = place_at 0 project file.at

-- the bytes of the file that the project names so, where the files before it have so many bytes
abbrev pub next_file : Files → List ℕ → ℕ → FileName → Result (List ℕ) Refusal
next_file held project before f =
    on_ok (bytes_at (named_at project f) (file_in held f.name)) (λ bytes. within_all (named_at project f) (before + length bytes) bytes)

-- the bytes of these files in order, where those before them have so many bytes
abbrev pub files_from : Files → List ℕ → ℕ → List FileName → Result (List (List ℕ)) Refusal
files_from held project before [] = Ok []
files_from held project before (f ∷ fs) =
    on_ok (next_file held project before f) (λ bytes.
    on_ok (files_from held project (before + length bytes) fs) (λ rest.
    Ok (bytes ∷ rest)))

-- the files of a module, and of modules
abbrev pub files_of : Module → List FileName
files_of m = m.source ∷ m.spec ∷ m.script ∷ []

-- the modules, unless there are more than are built now
abbrev pub built_modules : List Module → Result (List Module) Refusal
built_modules [] = Ok []
built_modules (m ∷ []) = Ok (m ∷ [])
built_modules (m ∷ n ∷ ms) = Err (refusal_at NotBuilt (first_place 0) Nothing)

-- the modules of a project file
abbrev pub modules_of : List ℕ → Result (List Module) Refusal
modules_of project = on_ok (project_of project) built_modules

-- the bytes of the project of that name and of its files in order
abbrev pub loaded : Files → List ℕ → Result (List (List ℕ)) Refusal
loaded held name =
    on_ok (bytes_at (first_place 0) (file_in held name)) (λ project.
    on_ok (modules_of project) (λ modules.
    on_ok (files_from held project 0 (flat_map files_of modules)) (λ files.
    Ok (project ∷ files))))

-- the names of the project and of its files by their numbers
abbrev pub names_with : List ℕ → Result (List Module) Refusal → List (List ℕ)
names_with name (Ok modules) = name ∷ map (λ (f : FileName). f.name) (flat_map files_of modules)
names_with name (Err r) = name ∷ []

-- the same, of the held files
abbrev pub names_in : Files → List ℕ → List (List ℕ)
names_in held name = names_with name (on_ok (bytes_at (first_place 0) (file_in held name)) modules_of)
