use Rattle.std.proofs.Common.{◌≡◌, length}
use Rattle.floyd_link_parts.specs.PartClauses.{put_units}
use Rattle.floyd_link_parts.proofs.functions.put_units.Given as goal

abbrev pub decreases-units : goal.decreases-units
decreases-units l = length l.rest

abbrev pub invariant-units : goal.invariant-units
invariant-units l = put_units l.owns l.rest (l.all, l.names) ≡ put_units l.owns l.units (l.initial.all, l.initial.names)
