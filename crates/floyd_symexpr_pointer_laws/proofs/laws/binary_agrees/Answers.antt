use Rattle.floyd_symexpr_pointer_laws.proofs.Operators.{binary_agrees}
use Rattle.floyd_symexpr_pointer_laws.proofs.laws.binary_agrees.Goals as goal

pub returns : goal.returns
returns c = λ S env look h parts op T U t u r v w a b needs more sees holds movable fv fw m l e f g met. binary_agrees S env look h parts op T U t u r v w a b needs more sees holds movable fv fw m l e f g met
