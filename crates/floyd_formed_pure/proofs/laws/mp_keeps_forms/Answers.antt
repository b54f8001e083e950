use Rattle.floyd_formed_pure.proofs.Using.{mp_forms}
use Rattle.floyd_formed_pure.proofs.laws.mp_keeps_forms.Goals as goal

pub returns : goal.returns
returns c = λ defs specs g args goals formed given row. mp_forms defs specs g args goals formed given row
