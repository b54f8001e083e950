use Rattle.std.proofs.Common.{◌≡◌, length}
use Rattle.floyd_link_names.specs.Main.{has_main}
use Rattle.floyd_link_names.proofs.mains.has_main.Given as goal

abbrev pub decreases-units : goal.decreases-units
decreases-units l = length l.rest

abbrev pub invariant-units : goal.invariant-units
invariant-units l = has_main l.rest ≡ has_main l.units
