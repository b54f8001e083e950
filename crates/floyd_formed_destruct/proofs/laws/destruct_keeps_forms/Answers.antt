use Rattle.floyd_formed_destruct.proofs.Cases.{destruct_forms}
use Rattle.floyd_formed_destruct.proofs.laws.destruct_keeps_forms.Goals as goal

pub returns : goal.returns
returns c = λ defs specs g args goals formed few given row. destruct_forms defs specs g args goals formed few given row
