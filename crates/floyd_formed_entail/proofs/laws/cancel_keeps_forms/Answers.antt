use Rattle.floyd_formed_entail.proofs.Cancelled.{cancel_forms}
use Rattle.floyd_formed_entail.proofs.laws.cancel_keeps_forms.Goals as goal

pub returns : goal.returns
returns c = λ defs specs g args goals formed none row. cancel_forms defs specs g args goals formed row
