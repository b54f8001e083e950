use Rattle.std.proofs.Common.{◌≡◌, length}
use Rattle.floyd_link_modules.specs.Modules.{with_functions}
use Rattle.floyd_link_modules.proofs.names.put_functions.Given as goal

abbrev pub decreases-functions : goal.decreases-functions
decreases-functions l = length l.rest

abbrev pub invariant-functions : goal.invariant-functions
invariant-functions l = with_functions l.rest l.names ≡ with_functions l.functions l.initial.names
