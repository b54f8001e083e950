use Rattle.floyd_formed_places.proofs.Putting.{weaken_forms}
use Rattle.floyd_formed_places.proofs.laws.weaken_keeps_forms.Goals as goal

pub returns : goal.returns
returns c = λ defs specs g args goals formed none row. weaken_forms defs specs g args goals formed row
