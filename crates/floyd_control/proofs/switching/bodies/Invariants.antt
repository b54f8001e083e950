use Rattle.std.proofs.Common.{◌≡◌, ◌++◌, drop}
use Rattle.floyd_control.specs.ForwardSwitch.{bodies_of}
use Rattle.floyd_control.proofs.switching.bodies.Given as goal

abbrev pub invariant-cases : goal.invariant-cases
invariant-cases l = l.all ++ bodies_of (drop l.case-index l.cases) ≡ bodies_of l.cases
