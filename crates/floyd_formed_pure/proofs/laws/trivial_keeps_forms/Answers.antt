use Rattle.floyd_formed_pure.proofs.Closing.{trivial_forms}
use Rattle.floyd_formed_pure.proofs.laws.trivial_keeps_forms.Goals as goal

pub returns : goal.returns
returns c = λ defs specs g args goals formed given row. trivial_forms defs specs g args goals formed given row
