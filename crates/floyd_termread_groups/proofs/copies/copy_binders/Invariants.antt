use Rattle.std.proofs.Common.{◌≡◌, take}
use Rattle.floyd_termread_groups.proofs.copies.copy_binders.Given as goal

abbrev pub invariant-loop-binder : goal.invariant-loop-binder
invariant-loop-binder l = l.copy ≡ take l.binder-index l.binders
