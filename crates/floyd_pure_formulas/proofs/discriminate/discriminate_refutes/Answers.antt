use Rattle.floyd_pure_formulas.proofs.Telling.{discriminate_refuting}
use Rattle.floyd_pure_formulas.proofs.discriminate.discriminate_refutes.Goals as goal

pub returns : goal.returns
returns c = λ defs specs goal' args goals row. discriminate_refuting defs specs goal' args goals row
