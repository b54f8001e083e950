use Rattle.floyd_formed_pure.proofs.Closing.{refl_forms}
use Rattle.floyd_formed_pure.proofs.laws.refl_keeps_forms.Goals as goal

pub returns : goal.returns
returns c = λ defs specs g args goals formed given row. refl_forms defs specs g args goals formed given row
