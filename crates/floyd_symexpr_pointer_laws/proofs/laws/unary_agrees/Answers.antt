use Rattle.floyd_symexpr_pointer_laws.proofs.Operators.{unary_agrees}
use Rattle.floyd_symexpr_pointer_laws.proofs.laws.unary_agrees.Goals as goal

pub returns : goal.returns
returns c = λ S env look op T t r v a needs more m e f met. unary_agrees S env look op T t r v a needs more m e f met
