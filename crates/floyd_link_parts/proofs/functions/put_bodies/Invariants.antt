use Rattle.std.proofs.Common.{◌≡◌, length}
use Rattle.floyd_link_parts.specs.PartClauses.{put_bodies}
use Rattle.floyd_link_parts.proofs.functions.put_bodies.Given as goal

abbrev pub decreases-functions : goal.decreases-functions
decreases-functions l = length l.rest

abbrev pub invariant-functions : goal.invariant-functions
invariant-functions l = put_bodies l.owns l.rest (l.all, l.names) ≡ put_bodies l.owns l.functions (l.initial.all, l.initial.names)
