use Rattle.std.proofs.Common.{◌≡◌, ◌∷◌, ◌++◌, drop, map}
use Rattle.floyd_check_project.specs.declared.module.FileName.{FileName}
use Rattle.floyd_cli.proofs.load.names_of.Given as goal

-- the names so far, and those of the files that are left
abbrev pub invariant-file : goal.invariant-file
invariant-file l =
    l.names ++ map (λ (f : FileName). f.name) (drop l.file-index l.files) ≡ l.name ∷ map (λ (f : FileName). f.name) l.files
