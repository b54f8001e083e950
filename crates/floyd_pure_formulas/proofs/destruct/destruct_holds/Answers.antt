use Rattle.floyd_pure_formulas.proofs.Destructing.{destruct_true}
use Rattle.floyd_pure_formulas.proofs.destruct.destruct_holds.Goals as goal

pub returns : goal.returns
returns c = destruct_true
