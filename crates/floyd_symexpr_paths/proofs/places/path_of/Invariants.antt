use Rattle.std.proofs.Common.{◌≡◌, ◌++◌, drop}
use Rattle.floyd_symexpr_paths.specs.Places.{path_of}
use Rattle.floyd_symexpr_paths.proofs.places.path_of.Given as goal

abbrev pub invariant-steps : goal.invariant-steps
invariant-steps l = l.path ++ path_of (drop l.taken-index l.form) ≡ path_of l.form
