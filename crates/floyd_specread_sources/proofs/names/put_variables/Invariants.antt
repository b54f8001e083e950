use Rattle.std.proofs.Common.{◌≡◌, length}
use Rattle.floyd_specread_sources.specs.Sources.{with_variables}
use Rattle.floyd_specread_sources.proofs.names.put_variables.Given as goal

abbrev pub decreases-variables : goal.decreases-variables
decreases-variables l = length l.rest

abbrev pub invariant-variables : goal.invariant-variables
invariant-variables l = with_variables l.rest l.names ≡ with_variables l.variables l.initial.names
