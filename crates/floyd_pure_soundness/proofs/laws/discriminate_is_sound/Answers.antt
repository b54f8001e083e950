use Rattle.floyd_pure_formulas.specs.Discriminate.{DiscriminateRow}
use Rattle.floyd_pure_formulas.proofs.Telling.{discriminate_refuting}
use Rattle.floyd_pure_soundness.proofs.Added.{refuting_row}
use Rattle.floyd_pure_soundness.proofs.laws.discriminate_is_sound.Goals as goal

pub returns : goal.returns
returns c = λ defs specs n g args goals hyps args_fit row h. refuting_row DiscriminateRow discriminate_refuting defs specs n g args goals hyps args_fit row h
