use Rattle.std.proofs.Common.{◌≡◌, ◌++◌, drop}
use Rattle.floyd_forward.proofs.objects.steps_behind.Given as goal

abbrev pub invariant-steps : goal.invariant-steps
invariant-steps l = l.rest ++ drop l.place l.path ≡ drop l.first l.path
