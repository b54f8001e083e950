use Rattle.floyd_formed_entail.proofs.Opening.{intros_forms}
use Rattle.floyd_formed_entail.proofs.laws.intros_keeps_forms.Goals as goal

pub returns : goal.returns
returns c = λ defs specs g args goals formed few row. intros_forms defs specs g args goals formed few row
