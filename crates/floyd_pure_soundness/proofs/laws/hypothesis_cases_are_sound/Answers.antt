use Rattle.floyd_pure_soundness.proofs.Divided.{hypothesis_row}
use Rattle.floyd_pure_soundness.proofs.laws.hypothesis_cases_are_sound.Goals as goal

pub returns : goal.returns
returns c = λ defs specs n g args goals formed args_fit row h. hypothesis_row defs specs n g args goals formed args_fit row h
