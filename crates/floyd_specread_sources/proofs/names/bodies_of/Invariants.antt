use Rattle.std.proofs.Common.{◌≡◌, [], length}
use Rattle.floyd_specread_sources.specs.Sources.{with_bodies}
use Rattle.floyd_specread_sources.proofs.names.bodies_of.Given as goal

abbrev pub decreases-functions : goal.decreases-functions
decreases-functions l = length l.rest

abbrev pub invariant-functions : goal.invariant-functions
invariant-functions l = with_bodies l.rest l.names ≡ with_bodies l.functions []
