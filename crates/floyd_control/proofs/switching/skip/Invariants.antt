use Rattle.std.proofs.Common.{◌≡◌, drop}
use Rattle.floyd_control.proofs.switching.skip.Given as goal

abbrev pub invariant-statements : goal.invariant-statements
invariant-statements l = l.rest ≡ drop l._statement-index l.initial.rest
