use Rattle.floyd_symexpr_pointer_laws.proofs.Operators.{cast_agrees}
use Rattle.floyd_symexpr_pointer_laws.proofs.laws.cast_agrees.Goals as goal

pub returns : goal.returns
returns c = λ S env look from to t r v a needs more m e f met. cast_agrees S env look from to t r v a needs more m e f met
