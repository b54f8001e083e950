use Rattle.floyd_formed_pure.proofs.Closing.{lia_forms}
use Rattle.floyd_formed_pure.proofs.laws.lia_keeps_forms.Goals as goal

pub returns : goal.returns
returns c = λ defs specs g args goals formed given row. lia_forms defs specs g args goals formed given row
