use Rattle.std.proofs.Common.{◌≡◌, length}
use Rattle.floyd_link_parts.specs.PartClauses.{put_externals}
use Rattle.floyd_link_parts.proofs.functions.put_externals.Given as goal

abbrev pub decreases-functions : goal.decreases-functions
decreases-functions l = length l.rest

abbrev pub invariant-functions : goal.invariant-functions
invariant-functions l = put_externals l.owns l.defined l.rest (l.all, l.names) ≡ put_externals l.owns l.defined l.functions (l.initial.all, l.initial.names)
