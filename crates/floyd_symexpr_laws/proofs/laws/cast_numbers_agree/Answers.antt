use Rattle.floyd_symexpr_laws.proofs.NumberRows.{cast_number}
use Rattle.floyd_symexpr_laws.proofs.laws.cast_numbers_agree.Goals as goal

pub returns : goal.returns
returns c = λ defs specs env from to t r v a needs more m f e all. cast_number defs specs env from to t r v a needs more m f e all
