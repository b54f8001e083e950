use Rattle.std.proofs.Common.{◌≡◌, ◌++◌, length, map}
use Rattle.floyd_link_names.specs.Names.{of_variable}
use Rattle.floyd_link_names.proofs.entries.add_variables.Given as goal

abbrev pub decreases-variables : goal.decreases-variables
decreases-variables l = length l.rest

abbrev pub invariant-variables : goal.invariant-variables
invariant-variables l = l.entries ++ map of_variable l.rest ≡ l.initial.entries ++ map of_variable l.variables
