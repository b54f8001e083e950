use Rattle.std.proofs.Common.{◌≡◌, length}
use Rattle.floyd_link_names.specs.DuplicateClauses.{modules_by}
use Rattle.floyd_link_names.proofs.duplicates.of_modules.Given as goal

abbrev pub decreases-modules : goal.decreases-modules
decreases-modules l = length l.rest

abbrev pub invariant-modules : goal.invariant-modules
invariant-modules l = modules_by l.found l.names l.rest ≡ modules_by l.fn.first l.names l.modules
