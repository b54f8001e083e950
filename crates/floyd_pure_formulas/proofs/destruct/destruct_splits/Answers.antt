use Rattle.floyd_pure_formulas.proofs.CasesTrue.{hypothesis_splitting}
use Rattle.floyd_pure_formulas.proofs.destruct.destruct_splits.Goals as goal

pub returns : goal.returns
returns c = hypothesis_splitting
