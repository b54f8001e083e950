use Rattle.std.proofs.Common.{◌≡◌, length}
use Rattle.floyd_link_names.specs.Duplicates.{first_from}
use Rattle.floyd_link_names.specs.DuplicateClauses.{otherwise_by}
use Rattle.floyd_link_names.proofs.duplicates.otherwise.Given as goal

abbrev pub decreases-entries : goal.decreases-entries
decreases-entries l = length l.rest

abbrev pub invariant-entries : goal.invariant-entries
invariant-entries l = first_from l.found (otherwise_by l.types l.rest) ≡ first_from l.fn.first (otherwise_by l.types l.entries)
