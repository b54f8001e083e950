use Rattle.floyd_symexpr_laws.proofs.NumberRows.{one_number}
use Rattle.floyd_symexpr_laws.proofs.laws.one_number_agrees.Goals as goal

pub returns : goal.returns
returns c = λ defs specs env op k t r v a needs more m f e all. one_number defs specs env op k t r v a needs more m f e all
