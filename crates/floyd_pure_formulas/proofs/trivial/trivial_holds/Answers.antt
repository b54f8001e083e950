use Rattle.floyd_pure_formulas.proofs.Closing.{trivial_true}
use Rattle.floyd_pure_formulas.proofs.trivial.trivial_holds.Goals as goal

pub returns : goal.returns
returns c = λ defs specs pure args goals keeps hyps_fit fit args_fit row env suits hyps true. trivial_true defs specs pure args goals keeps hyps_fit fit args_fit row env suits hyps true
