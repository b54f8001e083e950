use Rattle.std.proofs.Common.{◌≡◌, ◌++◌, length, map}
use Rattle.floyd_link_names.specs.Names.{of_defined}
use Rattle.floyd_link_names.proofs.entries.add_defined.Given as goal

abbrev pub decreases-functions : goal.decreases-functions
decreases-functions l = length l.rest

abbrev pub invariant-functions : goal.invariant-functions
invariant-functions l = l.entries ++ map of_defined l.rest ≡ l.initial.entries ++ map of_defined l.functions
