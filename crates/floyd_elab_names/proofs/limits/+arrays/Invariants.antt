use Rattle.std.proofs.Common.{◌≡◌, drop}
use Rattle.floyd_elab_names.specs.ListClauses.{each_within as each_within_lem}
use Rattle.floyd_elab_names.proofs.limits.+arrays.Given as goal

abbrev pub invariant-each_within-types : goal.invariant-each_within-types
invariant-each_within-types l = each_within_lem l.structs (drop l.t-index l.types) ≡ each_within_lem l.structs l.types
