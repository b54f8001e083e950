use Rattle.floyd_pure_formulas.specs.Cut.{CutRow}
use Rattle.floyd_pure_formulas.proofs.Using.{cut_adding}
use Rattle.floyd_pure_soundness.proofs.Added.{adding_row}
use Rattle.floyd_pure_soundness.proofs.laws.cut_is_sound.Goals as goal

pub returns : goal.returns
returns c = λ defs specs n g args goals hyps args_fit row h. adding_row CutRow cut_adding defs specs n g args goals hyps args_fit row h
