use Rattle.floyd_pure_formulas.specs.Mp.{MpRow}
use Rattle.floyd_pure_formulas.proofs.Using.{mp_adding}
use Rattle.floyd_pure_soundness.proofs.Added.{adding_row}
use Rattle.floyd_pure_soundness.proofs.laws.mp_is_sound.Goals as goal

pub returns : goal.returns
returns c = λ defs specs n g args goals hyps args_fit row h. adding_row MpRow mp_adding defs specs n g args goals hyps args_fit row h
