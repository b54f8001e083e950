use Rattle.floyd_symexpr_laws.proofs.NumberRows.{two_numbers}
use Rattle.floyd_symexpr_laws.proofs.laws.two_numbers_agree.Goals as goal

pub returns : goal.returns
returns c = λ defs specs env op j k t u r v w a b needs more m l f g e all. two_numbers defs specs env op j k t u r v w a b needs more m l f g e all
