use Rattle.std.proofs.Common.{◌≡◌, [], take, drop}
use Rattle.floyd_entail.specs.Intros.{first_taken}
use Rattle.floyd_entail.proofs.intros.first_taken.Given as goal

abbrev pub invariant-names : goal.invariant-names
invariant-names l = first_taken l.variables (take l.i l.names) (drop l.i l.names) ≡ first_taken l.variables [] l.names
