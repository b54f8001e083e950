use Rattle.floyd_formed_forward.proofs.Forward.{forward_forms}
use Rattle.floyd_formed_forward.proofs.laws.forward_keeps_forms.Goals as goal

pub returns : goal.returns
returns c = λ defs specs g args goals formed asks row. forward_forms defs specs g args goals formed asks row
