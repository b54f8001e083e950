use Rattle.floyd_pure_formulas.proofs.Closing.{refl_true}
use Rattle.floyd_pure_formulas.proofs.refl.refl_holds.Goals as goal

pub returns : goal.returns
returns c = λ defs specs pure args goals keeps hyps_fit fit args_fit row env suits hyps true. refl_true defs specs pure args goals keeps hyps_fit fit args_fit row env suits hyps true
