use Rattle.floyd_pure_laws.specs.Lia.{LiaRow}
use Rattle.floyd_pure_laws.proofs.Certifying.{lia_true}
use Rattle.floyd_pure_soundness.proofs.Kept.{keeping_row}
use Rattle.floyd_pure_soundness.proofs.laws.lia_is_sound.Goals as goal

pub returns : goal.returns
returns c = λ defs specs n pure args goals fit args_fit row h. keeping_row LiaRow lia_true defs specs n pure args goals fit args_fit row h
