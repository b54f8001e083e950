use Rattle.std.proofs.Common.{◌≡◌, length}
use Rattle.floyd_link_parts.specs.PartClauses.{put_declared}
use Rattle.floyd_link_parts.proofs.functions.put_declared.Given as goal

abbrev pub decreases-units : goal.decreases-units
decreases-units l = length l.rest

abbrev pub invariant-units : goal.invariant-units
invariant-units l = put_declared l.owns l.defined l.rest (l.all, l.names) ≡ put_declared l.owns l.defined l.units (l.initial.all, l.initial.names)
