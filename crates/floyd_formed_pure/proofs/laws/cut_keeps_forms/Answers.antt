use Rattle.floyd_formed_pure.proofs.Using.{cut_forms}
use Rattle.floyd_formed_pure.proofs.laws.cut_keeps_forms.Goals as goal

pub returns : goal.returns
returns c = λ defs specs g args goals formed given row. cut_forms defs specs g args goals formed given row
