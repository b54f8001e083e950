use Rattle.std.proofs.Common.{◌≡◌, length}
use Rattle.floyd_link_names.specs.Duplicates.{first_from}
use Rattle.floyd_link_names.specs.UnresolvedClauses.{variables_by}
use Rattle.floyd_link_names.proofs.missing.variables.Given as goal

abbrev pub decreases-variables : goal.decreases-variables
decreases-variables l = length l.rest

abbrev pub invariant-variables : goal.invariant-variables
invariant-variables l = first_from l.found (variables_by l.defined l.own l.names l.rest) ≡ first_from l.fn.first (variables_by l.defined l.own l.names l.all)
