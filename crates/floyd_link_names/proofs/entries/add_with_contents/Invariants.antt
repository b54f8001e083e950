use Rattle.std.proofs.Common.{◌≡◌, ◌++◌, length, map, filter}
use Rattle.floyd_link_names.specs.Names.{has_contents, of_variable}
use Rattle.floyd_link_names.proofs.entries.add_with_contents.Given as goal

abbrev pub decreases-variables : goal.decreases-variables
decreases-variables l = length l.rest

abbrev pub invariant-variables : goal.invariant-variables
invariant-variables l = l.entries ++ map of_variable (filter has_contents l.rest) ≡ l.initial.entries ++ map of_variable (filter has_contents l.variables)
