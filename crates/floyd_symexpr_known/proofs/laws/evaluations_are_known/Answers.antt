use Rattle.floyd_symexpr_known.proofs.Readings.{evaluation_known}
use Rattle.floyd_symexpr_known.proofs.laws.evaluations_are_known.Goals as goal

pub returns : goal.returns
returns c = λ defs specs names source e given file known typed f. evaluation_known defs specs names file source known e given typed f
