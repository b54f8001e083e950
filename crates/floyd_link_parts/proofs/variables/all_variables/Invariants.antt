use Rattle.std.proofs.Common.{◌≡◌, [], length}
use Rattle.floyd_link_parts.specs.PartClauses.{variables_behind}
use Rattle.floyd_link_parts.proofs.variables.all_variables.Given as goal

abbrev pub decreases-units : goal.decreases-units
decreases-units l = length l.rest

abbrev pub invariant-units : goal.invariant-units
invariant-units l = variables_behind l.all l.rest ≡ variables_behind [] l.units
