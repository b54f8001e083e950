use Rattle.std.proofs.Common.{◌≡◌, [], None, length}
use Rattle.floyd_link_names.specs.DuplicateClauses.{all_names, sources_by}
use Rattle.floyd_link_names.proofs.duplicates.of_sources.Given as goal

abbrev pub decreases-units : goal.decreases-units
decreases-units l = length l.rest

abbrev pub invariant-units : goal.invariant-units
invariant-units l = (sources_by l.found l.types l.names l.rest ≡ sources_by None [] l.initial.names l.units) × (all_names l.names l.rest ≡ all_names l.initial.names l.units)
