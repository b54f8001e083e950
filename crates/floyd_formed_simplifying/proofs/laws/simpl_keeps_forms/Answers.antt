use Rattle.floyd_formed_simplifying.proofs.Goals.{simpl_forms}
use Rattle.floyd_formed_simplifying.proofs.laws.simpl_keeps_forms.Goals as goal

pub returns : goal.returns
returns c = λ defs specs g args goals formed given row. simpl_forms defs specs g args goals formed given row
