use Rattle.floyd_pure_formulas.proofs.Using.{cut_true}
use Rattle.floyd_pure_formulas.proofs.cut.cut_holds.Goals as goal

pub returns : goal.returns
returns c = λ defs specs pure args goals keeps hyps_fit fit args_fit row env suits hyps true. cut_true defs specs pure args goals keeps hyps_fit fit args_fit row env suits hyps true
