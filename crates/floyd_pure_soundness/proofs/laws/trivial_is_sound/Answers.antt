use Rattle.floyd_pure_formulas.specs.Trivial.{TrivialRow}
use Rattle.floyd_pure_formulas.proofs.Closing.{trivial_true}
use Rattle.floyd_pure_soundness.proofs.Kept.{keeping_row}
use Rattle.floyd_pure_soundness.proofs.laws.trivial_is_sound.Goals as goal

pub returns : goal.returns
returns c = λ defs specs n pure args goals fit args_fit row h. keeping_row TrivialRow trivial_true defs specs n pure args goals fit args_fit row h
