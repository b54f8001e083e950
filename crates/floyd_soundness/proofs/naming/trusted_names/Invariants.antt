use Rattle.std.proofs.Common.{◌≡◌, ◌++◌, drop}
use Rattle.std.specs.List.{flat_map}
use Rattle.floyd_soundness.specs.Accepted.{trusted_name}
use Rattle.floyd_soundness.proofs.naming.trusted_names.Given as goal

abbrev pub invariant-functions : goal.invariant-functions
invariant-functions l = l.names ++ flat_map trusted_name (drop l.function-index l.functions) ≡ flat_map trusted_name l.functions
