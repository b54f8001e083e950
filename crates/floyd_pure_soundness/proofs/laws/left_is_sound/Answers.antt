use Rattle.floyd_pure_formulas.specs.LeftRight.{LeftRow}
use Rattle.floyd_pure_formulas.proofs.LeftRight.{left_true}
use Rattle.floyd_pure_soundness.proofs.Kept.{keeping_row}
use Rattle.floyd_pure_soundness.proofs.laws.left_is_sound.Goals as goal

pub returns : goal.returns
returns c = λ defs specs n pure args goals fit args_fit row h. keeping_row LeftRow left_true defs specs n pure args goals fit args_fit row h
