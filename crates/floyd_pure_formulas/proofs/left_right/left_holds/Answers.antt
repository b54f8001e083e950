use Rattle.floyd_pure_formulas.proofs.LeftRight.{left_true}
use Rattle.floyd_pure_formulas.proofs.left_right.left_holds.Goals as goal

pub returns : goal.returns
returns c = λ defs specs pure args goals keeps hyps_fit fit args_fit row env suits hyps true. left_true defs specs pure args goals keeps hyps_fit fit args_fit row env suits hyps true
