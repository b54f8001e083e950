use Rattle.std.proofs.Common.{◌≡◌, drop}
use Rattle.floyd_symexpr_paths.specs.Bounds.{bounds}
use Rattle.floyd_symexpr_paths.proofs.bounds.say_bounds.Given as goal

abbrev pub invariant-steps : goal.invariant-steps
invariant-steps g l = bounds l.at.structs.now l.inner l.left (drop l.taken-index l.form) l.all ≡ bounds l.at.structs.now l.t l.skip l.form l.initial.all
