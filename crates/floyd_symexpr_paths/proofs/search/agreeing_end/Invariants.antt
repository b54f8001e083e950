use Rattle.std.proofs.Common.{◌≡◌, drop}
use Rattle.floyd_symexpr_paths.specs.Locating.{agreeing_end}
use Rattle.floyd_symexpr_paths.proofs.search.agreeing_end.Given as goal

abbrev pub invariant-steps : goal.invariant-steps
invariant-steps l = agreeing_end l.structs l.inner (drop l.taken-index l.form) ≡ agreeing_end l.structs l.t l.form
