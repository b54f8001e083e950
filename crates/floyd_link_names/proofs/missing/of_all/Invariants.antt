use Rattle.std.proofs.Common.{◌≡◌, None, length}
use Rattle.floyd_link_names.specs.UnresolvedClauses.{all_by}
use Rattle.floyd_link_names.proofs.missing.of_all.Given as goal

abbrev pub decreases-modules : goal.decreases-modules
decreases-modules l = length l.sources

abbrev pub invariant-modules : goal.invariant-modules
invariant-modules l = all_by l.found l.defined l.sources l.specs l.lists ≡ all_by None l.defined l.units l.modules l.mentioned
