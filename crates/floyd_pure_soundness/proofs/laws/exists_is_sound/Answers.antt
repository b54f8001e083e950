use Rattle.floyd_pure_quantifiers.specs.Exists.{ExistsRow}
use Rattle.floyd_pure_quantifiers.proofs.Instancing.{exists_true}
use Rattle.floyd_pure_soundness.proofs.Kept.{keeping_row}
use Rattle.floyd_pure_soundness.proofs.laws.exists_is_sound.Goals as goal

pub returns : goal.returns
returns c = λ defs specs n pure args goals fit args_fit row h. keeping_row ExistsRow exists_true defs specs n pure args goals fit args_fit row h
