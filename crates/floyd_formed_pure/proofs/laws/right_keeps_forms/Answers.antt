use Rattle.floyd_formed_pure.proofs.Using.{right_forms}
use Rattle.floyd_formed_pure.proofs.laws.right_keeps_forms.Goals as goal

pub returns : goal.returns
returns c = λ defs specs g args goals formed given row. right_forms defs specs g args goals formed given row
