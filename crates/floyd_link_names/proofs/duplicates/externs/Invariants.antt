use Rattle.std.proofs.Common.{◌≡◌, length}
use Rattle.floyd_link_names.specs.Duplicates.{first_from}
use Rattle.floyd_link_names.specs.DuplicateClauses.{externs_by}
use Rattle.floyd_link_names.proofs.duplicates.externs.Given as goal

abbrev pub decreases-declarations : goal.decreases-declarations
decreases-declarations l = length l.rest

abbrev pub invariant-declarations : goal.invariant-declarations
invariant-declarations l = first_from l.found (externs_by l.names l.rest) ≡ first_from l.fn.first (externs_by l.names l.declarations)
