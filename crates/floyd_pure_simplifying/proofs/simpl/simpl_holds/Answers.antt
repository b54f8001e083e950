use Rattle.floyd_pure_simplifying.proofs.Simplifying.{simpl_true}
use Rattle.floyd_pure_simplifying.proofs.simpl.simpl_holds.Goals as goal

pub returns : goal.returns
returns c = simpl_true
