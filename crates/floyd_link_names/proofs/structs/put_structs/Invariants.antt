use Rattle.std.proofs.Common.{◌≡◌, length}
use Rattle.floyd_link_names.specs.StructClauses.{with_fields}
use Rattle.floyd_link_names.proofs.structs.put_structs.Given as goal

abbrev pub decreases-structs : goal.decreases-structs
decreases-structs l = length l.rest

abbrev pub invariant-structs : goal.invariant-structs
invariant-structs l = with_fields l.rest l.table ≡ with_fields l.defs l.initial.table
