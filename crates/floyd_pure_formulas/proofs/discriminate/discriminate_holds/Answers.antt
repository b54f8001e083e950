use Rattle.floyd_pure_formulas.proofs.Telling.{discriminate_true}
use Rattle.floyd_pure_formulas.proofs.discriminate.discriminate_holds.Goals as goal

pub returns : goal.returns
returns c = λ defs specs pure args goals keeps hyps_fit fit args_fit row env suits hyps true. discriminate_true defs specs pure args goals keeps hyps_fit fit args_fit row env suits hyps true
