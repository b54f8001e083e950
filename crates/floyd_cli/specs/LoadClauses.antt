-- What loading a project answers, where the shelf tells what it holds.
use Rattle.std.specs.Prelude.{◌≡◌, ℕ, true, List, [], ◌∷◌, Option, Some, None, Result, Ok, Err}
use Rattle.floyd_text.specs.declared.place.Place.{Place}
use Rattle.floyd_text.specs.declared.refusal.Refusal.{Refusal}
use Rattle.floyd_text.specs.declared.refusal.Halt.TheVariants.{Refused, Memory}
use Rattle.floyd_text.specs.Outside.{Files, file_in, Rose}
use Rattle.floyd_check_project.specs.declared.module.FileName.{FileName}
use Rattle.floyd_check_project.specs.declared.module.Module.{Module}
use Rattle.floyd_check_project.specs.Lines.{is_file_name}
use Rattle.floyd_check.specs.Loading.{bytes_at, next_file, files_from, modules_of, loaded, names_in}
use Rattle.floyd_cli.specs.declared.load.LoadStop.{LoadStop}
use Rattle.floyd_cli.specs.declared.load.LoadStop.TheVariants.{Halted, Fault}
use Rattle.floyd_cli.specs.declared.load.Loaded.{Loaded}

-- the bytes of the file of that name, which is named at this place, or its refusal
unfoldable pub HasBytes : Option Files → Place → List ℕ → Result (List ℕ) Refusal → Type 0
HasBytes None place name r = Unit {0}
HasBytes (Some files) place name r = bytes_at place (file_in files name) ≡ r

-- the bytes of the next file of a project, where those before it have so many bytes, or its refusal
unfoldable pub HasNext : Option Files → List ℕ → ℕ → FileName → Result (List ℕ) Refusal → Type 0
HasNext None project before f r = Unit {0}
HasNext (Some files) project before f r = next_file files project before f ≡ r

-- the bytes of these files of a project, or the first refusal
unfoldable pub HasFiles : Option Files → List ℕ → List FileName → Result (List (List ℕ)) Refusal → Type 0
HasFiles None project named r = Unit {0}
HasFiles (Some files) project named r = files_from files project 0 named ≡ r

-- the bytes of the project of that name and of its files, or the first refusal
unfoldable pub HasProject : Option Files → List ℕ → Result (List (List ℕ)) Refusal → Type 0
HasProject None name r = Unit {0}
HasProject (Some files) name r = loaded files name ≡ r

-- the bytes of the files of the project of that name, which reads
unfoldable pub HasLoaded : Option Files → List ℕ → List (List ℕ) → Type 0
HasLoaded None name others = Unit {0}
HasLoaded (Some files) name others =
    (project : List ℕ) × (modules : List Module) × (loaded files name ≡ Ok (project ∷ others)) × (modules_of project ≡ Ok modules)

-- the names of the project and of its files
unfoldable pub HasNames : Option Files → List ℕ → List (List ℕ) → Type 0
HasNames None name names = Unit {0}
HasNames (Some files) name names = names_in files name ≡ names

-- what reading one file answers, where the count of faults was and is so
abbrev pub ReadsFile : Option Files → Place → List ℕ → ℕ → ℕ → Result (List ℕ) LoadStop → Type 0
ReadsFile held place name before now (Ok bytes) = HasBytes held place name (Ok bytes)
ReadsFile held place name before now (Err (Halted (Refused r))) = HasBytes held place name (Err r)
ReadsFile held place name before now (Err Fault) = Rose before now
ReadsFile held place name before now (Err (Halted Memory)) = Unit {0}

abbrev pub ReadsNext : Option Files → List ℕ → ℕ → FileName → ℕ → ℕ → Result (List ℕ) LoadStop → Type 0
ReadsNext held project total f before now (Ok bytes) = HasNext held project total f (Ok bytes)
ReadsNext held project total f before now (Err (Halted (Refused r))) = HasNext held project total f (Err r)
ReadsNext held project total f before now (Err Fault) = Rose before now
ReadsNext held project total f before now (Err (Halted Memory)) = Unit {0}

abbrev pub ReadsFiles : Option Files → List ℕ → List FileName → ℕ → ℕ → Result (List (List ℕ)) LoadStop → Type 0
ReadsFiles held project named before now (Ok files) = HasFiles held project named (Ok files)
ReadsFiles held project named before now (Err (Halted (Refused r))) = HasFiles held project named (Err r)
ReadsFiles held project named before now (Err Fault) = Rose before now
ReadsFiles held project named before now (Err (Halted Memory)) = Unit {0}

abbrev pub Loads : Option Files → List ℕ → ℕ → ℕ → Result Loaded LoadStop → Type 0
Loads held name before now (Ok l) = HasLoaded held name l.files × HasNames held name l.names
Loads held name before now (Err (Halted (Refused r))) = HasProject held name (Err r)
Loads held name before now (Err Fault) = Rose before now
Loads held name before now (Err (Halted Memory)) = Unit {0}

-- each has the name of a file
abbrev pub AreNamed : List FileName → Type 0
AreNamed [] = Unit {0}
AreNamed (f ∷ fs) = (is_file_name f.name ≡ true) × AreNamed fs
