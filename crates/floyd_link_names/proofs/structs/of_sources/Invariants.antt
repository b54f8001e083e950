use Rattle.std.proofs.Common.{◌≡◌, [], None, length}
use Rattle.floyd_link_names.specs.StructClauses.{sources_by}
use Rattle.floyd_link_names.proofs.structs.of_sources.Given as goal

abbrev pub decreases-units : goal.decreases-units
decreases-units l = length l.rest

abbrev pub invariant-units : goal.invariant-units
invariant-units l = sources_by l.found l.table l.rest ≡ sources_by None [] l.units
