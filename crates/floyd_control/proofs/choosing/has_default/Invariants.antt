use Rattle.std.proofs.Common.{◌≡◌, length}
use Rattle.floyd_control.specs.ForwardSwitch.{has_default, labels_of}
use Rattle.floyd_control.proofs.choosing.has_default.Given as goal

abbrev pub decreases-cases : goal.decreases-cases
decreases-cases l = length l.rest

abbrev pub invariant-cases : goal.invariant-cases
invariant-cases l = has_default (labels_of l.rest) ≡ has_default (labels_of l.cases)
