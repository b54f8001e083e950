use Rattle.std.proofs.Common.{◌≡◌, length}
use Rattle.floyd_link_modules.specs.Modules.{with_variables}
use Rattle.floyd_link_modules.proofs.names.put_variables.Given as goal

abbrev pub decreases-variables : goal.decreases-variables
decreases-variables l = length l.rest

abbrev pub invariant-variables : goal.invariant-variables
invariant-variables l = with_variables l.rest l.names ≡ with_variables l.variables l.initial.names
