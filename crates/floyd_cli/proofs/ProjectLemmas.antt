-- What loading a project gives, by what its parts give.
use Rattle.std.proofs.Common.{◌≡◌, ℕ, List, [], ◌∷◌, map, Option, Some, None, Result, Ok, Err, refl, ◌∙◌, ap, subst}
use Rattle.std.specs.List.{flat_map}
use Rattle.floyd_text.specs.declared.refusal.Refusal.{Refusal}
use Rattle.floyd_text.specs.declared.refusal.Halt.{Halt}
use Rattle.floyd_text.specs.declared.refusal.Halt.TheVariants.{Refused, Memory}
use Rattle.floyd_text.specs.Gives.{Stops}
use Rattle.floyd_text.specs.Outside.{Files}
use Rattle.floyd_text.specs.Place.{first_place}
use Rattle.floyd_check_project.specs.declared.module.FileName.{FileName}
use Rattle.floyd_check_project.specs.declared.module.Module.{Module}
use Rattle.floyd_check_project.specs.Project.{project_of}
use Rattle.floyd_check_project.proofs.NameLaws.{AllNamed, project_named}
use Rattle.floyd_check.specs.Loading.{files_from, files_of, names_with, modules_of, built_modules, on_ok}
use Rattle.floyd_cli.specs.declared.load.LoadStop.{LoadStop}
use Rattle.floyd_cli.specs.declared.load.LoadStop.TheVariants.{Halted, Fault}
use Rattle.floyd_cli.specs.LoadClauses.{HasBytes, HasFiles, HasProject, HasLoaded, HasNames, AreNamed, ReadsFile, ReadsFiles, Loads}

-- what a project gives, by its bytes, by its modules, and by its files
abbrev on_project : Files → Result (List ℕ) Refusal → Result (List (List ℕ)) Refusal
on_project held r =
    on_ok r (λ project. on_ok (modules_of project) (λ modules. on_ok (files_from held project 0 (flat_map files_of modules)) (λ files. Ok (project ∷ files))))

abbrev on_modules : Files → List ℕ → Result (List Module) Refusal → Result (List (List ℕ)) Refusal
on_modules held project r = on_ok r (λ modules. on_ok (files_from held project 0 (flat_map files_of modules)) (λ files. Ok (project ∷ files)))

abbrev pub on_files : List ℕ → Result (List (List ℕ)) Refusal → Result (List (List ℕ)) Refusal
on_files project r = on_ok r (λ files. Ok (project ∷ files))

pub project_refused : (held : Option Files) (name : List ℕ) (r : Refusal) → HasBytes held (first_place 0) name (Err r) → HasProject held name (Err r)
unfolding HasBytes HasProject
project_refused None name r e = tt
project_refused (Some files) name r e = ap (on_project files) e

pub modules_refused : (held : Option Files) (name project : List ℕ) (r : Refusal)
    → HasBytes held (first_place 0) name (Ok project) → modules_of project ≡ Err r → HasProject held name (Err r)
unfolding HasBytes HasProject
modules_refused None name project r e m = tt
modules_refused (Some files) name project r e m = ap (on_project files) e ∙ ap (on_modules files project) m

pub project_loaded : (held : Option Files) (name project : List ℕ) (modules : List Module) (r : Result (List (List ℕ)) Refusal)
    → HasBytes held (first_place 0) name (Ok project) → modules_of project ≡ Ok modules → HasFiles held project (flat_map files_of modules) r
    → HasProject held name (on_files project r)
unfolding HasBytes HasFiles HasProject
project_loaded None name project modules r e m f = tt
project_loaded (Some files) name project modules r e m f = ap (on_project files) e ∙ ap (on_modules files project) m ∙ ap (on_files project) f

-- its files were read
pub has_loaded : (held : Option Files) (name project : List ℕ) (modules : List Module) (others : List (List ℕ))
    → HasBytes held (first_place 0) name (Ok project) → modules_of project ≡ Ok modules → HasFiles held project (flat_map files_of modules) (Ok others)
    → HasLoaded held name others
unfolding HasBytes HasFiles HasLoaded
has_loaded None name project modules others e m f = tt
has_loaded (Some files) name project modules others e m f =
    (project, modules, ap (on_project files) e ∙ ap (on_modules files project) m ∙ ap (on_files project) f, m)

pub project_names : (held : Option Files) (name project : List ℕ) (modules : List Module)
    → HasBytes held (first_place 0) name (Ok project) → modules_of project ≡ Ok modules
    → HasNames held name (name ∷ map (λ (f : FileName). f.name) (flat_map files_of modules))
unfolding HasBytes HasNames
project_names None name project modules e m = tt
project_names (Some files) name project modules e m =
    ap (λ r. names_with name (on_ok r modules_of)) e ∙ ap (names_with name) m

abbrev NamedOk : Result (List Module) Refusal → Type 0
NamedOk (Ok modules) = AreNamed (flat_map files_of modules)
NamedOk (Err r) = Unit {0}

files_named : (modules : List Module) → AllNamed modules → AreNamed (flat_map files_of modules)
files_named [] named = tt
files_named (m ∷ ms) named = (named.0, (named.1, (named.2, files_named ms named.3)))

built_named : (ms modules : List Module) → AllNamed ms → built_modules ms ≡ Ok modules → AreNamed (flat_map files_of modules)
built_named [] modules named e = subst NamedOk e tt
built_named (m ∷ []) modules named e = subst NamedOk e (files_named (m ∷ []) named)
built_named (m ∷ n ∷ ms) modules named e = absurd (cc)

bound_named : (bytes : List ℕ) (r : Result (List Module) Refusal) (modules : List Module) → project_of bytes ≡ r → on_ok r built_modules ≡ Ok modules → AreNamed (flat_map files_of modules)
bound_named bytes (Ok ms) modules is e = built_named ms modules (project_named bytes ms is) e
bound_named bytes (Err r) modules is e = absurd (cc)

-- the files of the modules of a project have names of files
pub modules_named : (project : List ℕ) (modules : List Module) → modules_of project ≡ Ok modules → AreNamed (flat_map files_of modules)
modules_named project modules e = bound_named project (project_of project) modules refl e

-- the project file does not read
pub modules_stopped : (held : Option Files) (name project : List ℕ) (halt : Halt) (before now : ℕ)
    → HasBytes held (first_place 0) name (Ok project) → Stops halt (modules_of project) → Loads held name before now (Err (Halted halt))
modules_stopped held name project (Refused r) before now e m = modules_refused held name project r e m
modules_stopped held name project Memory before now e m = tt

-- a file stops it
pub files_stopped : (held : Option Files) (name project : List ℕ) (modules : List Module) (stop : LoadStop) (before now : ℕ)
    → HasBytes held (first_place 0) name (Ok project) → modules_of project ≡ Ok modules → ReadsFiles held project (flat_map files_of modules) before now (Err stop)
    → Loads held name before now (Err stop)
files_stopped held name project modules (Halted (Refused r)) before now e m f = project_loaded held name project modules (Err r) e m f
files_stopped held name project modules Fault before now e m f = f
files_stopped held name project modules (Halted Memory) before now e m f = tt

-- the project itself stops it
pub project_stopped : (held : Option Files) (name : List ℕ) (stop : LoadStop) (before now : ℕ)
    → ReadsFile held (first_place 0) name before now (Err stop) → Loads held name before now (Err stop)
project_stopped held name (Halted (Refused r)) before now e = project_refused held name r e
project_stopped held name Fault before now e = e
project_stopped held name (Halted Memory) before now e = tt
