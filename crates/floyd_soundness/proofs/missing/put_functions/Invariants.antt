use Rattle.std.proofs.Common.{◌≡◌, ◌++◌, drop}
use Rattle.std.specs.List.{flat_map}
use Rattle.floyd_soundness.specs.KeyClauses.{knows}
use Rattle.floyd_soundness.specs.Unproved.{missing_function}
use Rattle.floyd_soundness.proofs.missing.put_functions.Given as goal

abbrev pub invariant-functions : goal.invariant-functions
invariant-functions l = l.all ++ flat_map (missing_function (knows l.proved)) (drop l.function-index l.functions) ≡ l.initial.all ++ flat_map (missing_function (knows l.proved)) l.functions
