use Rattle.floyd_formed_return.proofs.Returned.{all_forms}
use Rattle.floyd_formed_return.proofs.laws.forward_keeps_all_forms.Goals as goal

pub returns : goal.returns
returns c = λ defs specs g args goals formed asks row. all_forms defs specs g args goals formed asks row
