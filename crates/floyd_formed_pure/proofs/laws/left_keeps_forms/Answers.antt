use Rattle.floyd_formed_pure.proofs.Using.{left_forms}
use Rattle.floyd_formed_pure.proofs.laws.left_keeps_forms.Goals as goal

pub returns : goal.returns
returns c = λ defs specs g args goals formed given row. left_forms defs specs g args goals formed given row
