use Rattle.std.proofs.Common.{◌≡◌, [], length}
use Rattle.floyd_specread_sources.specs.Sources.{with_prototypes}
use Rattle.floyd_specread_sources.proofs.functions.prototypes_of.Given as goal

abbrev pub decreases-functions : goal.decreases-functions
decreases-functions l = length l.rest

abbrev pub invariant-functions : goal.invariant-functions
invariant-functions l = with_prototypes l.rest l.table ≡ with_prototypes l.functions []
