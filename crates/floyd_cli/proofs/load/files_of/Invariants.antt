use Rattle.std.proofs.Common.{◌≡◌, ◌++◌, drop}
use Rattle.std.specs.List.{flat_map}
use Rattle.floyd_check.specs.Loading.{files_of}
use Rattle.floyd_cli.proofs.load.files_of.Given as goal

-- the files so far, and those of the modules that are left
abbrev pub invariant-module : goal.invariant-module
invariant-module l = l.files ++ flat_map files_of (drop l.module-index l.modules) ≡ flat_map files_of l.modules
