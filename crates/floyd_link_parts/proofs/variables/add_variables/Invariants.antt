use Rattle.std.proofs.Common.{◌≡◌, ◌++◌, length, map, filter}
use Rattle.floyd_link_names.specs.Names.{has_contents}
use Rattle.floyd_link_parts.specs.Parts.{linked_variable}
use Rattle.floyd_link_parts.proofs.variables.add_variables.Given as goal

abbrev pub decreases-variables : goal.decreases-variables
decreases-variables l = length l.rest

abbrev pub invariant-variables : goal.invariant-variables
invariant-variables l = l.all ++ map linked_variable (filter has_contents l.rest) ≡ l.initial.all ++ map linked_variable (filter has_contents l.variables)
