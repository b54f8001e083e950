use Rattle.std.proofs.Common.{◌≡◌, length}
use Rattle.floyd_link_names.specs.Duplicates.{first_from}
use Rattle.floyd_link_names.specs.StructClauses.{structs_by}
use Rattle.floyd_link_names.proofs.structs.of_structs.Given as goal

abbrev pub decreases-structs : goal.decreases-structs
decreases-structs l = length l.rest

abbrev pub invariant-structs : goal.invariant-structs
invariant-structs l = first_from l.found (structs_by l.table l.rest) ≡ first_from l.fn.first (structs_by l.table l.defs)
