use Rattle.floyd_pure_formulas.proofs.Using.{mp_true}
use Rattle.floyd_pure_formulas.proofs.mp.mp_holds.Goals as goal

pub returns : goal.returns
returns c = λ defs specs pure args goals keeps hyps_fit fit args_fit row env suits hyps true. mp_true defs specs pure args goals keeps hyps_fit fit args_fit row env suits hyps true
