use Rattle.floyd_pure_formulas.proofs.LeftRight.{right_true}
use Rattle.floyd_pure_formulas.proofs.left_right.right_holds.Goals as goal

pub returns : goal.returns
returns c = λ defs specs pure args goals keeps hyps_fit fit args_fit row env suits hyps true. right_true defs specs pure args goals keeps hyps_fit fit args_fit row env suits hyps true
