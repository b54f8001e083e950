use Rattle.floyd_pure_formulas.proofs.Using.{cut_adding}
use Rattle.floyd_pure_formulas.proofs.cut.cut_adds.Goals as goal

pub returns : goal.returns
returns c = λ defs specs goal' args goals keeps hyps_fit args_fit row. cut_adding defs specs goal' args goals keeps hyps_fit args_fit row
