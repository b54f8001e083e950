use Rattle.std.proofs.Common.{◌≡◌, drop}
use Rattle.floyd_symexpr_paths.specs.Locating.{is_prefix}
use Rattle.floyd_symexpr_paths.proofs.search.is_prefix.Given as goal

abbrev pub invariant-steps : goal.invariant-steps
invariant-steps l = is_prefix (drop l.i l.path) (drop l.i l.form) ≡ is_prefix l.path l.form
