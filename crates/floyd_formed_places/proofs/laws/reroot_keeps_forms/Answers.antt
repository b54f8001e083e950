use Rattle.floyd_formed_places.proofs.Putting.{reroot_forms}
use Rattle.floyd_formed_places.proofs.laws.reroot_keeps_forms.Goals as goal

pub returns : goal.returns
returns c = λ defs specs g args goals formed none row. reroot_forms defs specs g args goals formed row
