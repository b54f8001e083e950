use Rattle.std.proofs.Common.{◌≡◌, length}
use Rattle.floyd_link_parts.specs.PartClauses.{with_owns}
use Rattle.floyd_link_parts.proofs.owns.put_owns.Given as goal

abbrev pub decreases-declarations : goal.decreases-declarations
decreases-declarations l = length l.rest

abbrev pub invariant-declarations : goal.invariant-declarations
invariant-declarations l = with_owns l.main_pre l.rest l.table ≡ with_owns l.main_pre l.declarations l.initial.table
