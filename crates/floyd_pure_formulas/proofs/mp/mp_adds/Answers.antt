use Rattle.floyd_pure_formulas.proofs.Using.{mp_adding}
use Rattle.floyd_pure_formulas.proofs.mp.mp_adds.Goals as goal

pub returns : goal.returns
returns c = λ defs specs goal' args goals keeps hyps_fit args_fit row. mp_adding defs specs goal' args goals keeps hyps_fit args_fit row
