use Rattle.std.proofs.Common.{◌≡◌, length}
use Rattle.floyd_link_names.specs.Duplicates.{first_from}
use Rattle.floyd_link_names.specs.UnresolvedClauses.{imports_by}
use Rattle.floyd_link_names.proofs.missing.imports.Given as goal

abbrev pub decreases-declarations : goal.decreases-declarations
decreases-declarations l = length l.rest

abbrev pub invariant-declarations : goal.invariant-declarations
invariant-declarations l = first_from l.found (imports_by l.defined l.rest) ≡ first_from l.fn.first (imports_by l.defined l.declarations)
