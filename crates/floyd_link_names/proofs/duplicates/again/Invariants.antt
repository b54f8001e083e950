use Rattle.std.proofs.Common.{◌≡◌, length}
use Rattle.floyd_link_names.specs.Duplicates.{first_from}
use Rattle.floyd_link_names.specs.DuplicateClauses.{again_by}
use Rattle.floyd_link_names.proofs.duplicates.again.Given as goal

abbrev pub decreases-entries : goal.decreases-entries
decreases-entries l = length l.rest

abbrev pub invariant-entries : goal.invariant-entries
invariant-entries l = first_from l.found (again_by l.defined l.rest) ≡ first_from l.fn.first (again_by l.defined l.entries)
