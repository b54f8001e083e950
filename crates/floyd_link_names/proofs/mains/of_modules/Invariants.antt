use Rattle.std.proofs.Common.{◌≡◌, None, length}
use Rattle.floyd_link_names.specs.MainClauses.{modules_by}
use Rattle.floyd_link_names.proofs.mains.of_modules.Given as goal

abbrev pub decreases-modules : goal.decreases-modules
decreases-modules l = length l.rest

abbrev pub invariant-modules : goal.invariant-modules
invariant-modules l = modules_by l.found l.rest ≡ modules_by None l.modules
