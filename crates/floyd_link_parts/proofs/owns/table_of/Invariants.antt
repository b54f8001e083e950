use Rattle.std.proofs.Common.{◌≡◌, [], length}
use Rattle.floyd_link_parts.specs.PartClauses.{with_modules}
use Rattle.floyd_link_parts.proofs.owns.table_of.Given as goal

abbrev pub decreases-modules : goal.decreases-modules
decreases-modules l = length l.rest

abbrev pub invariant-modules : goal.invariant-modules
invariant-modules l = with_modules l.main_pre l.rest l.table ≡ with_modules l.main_pre l.modules []
