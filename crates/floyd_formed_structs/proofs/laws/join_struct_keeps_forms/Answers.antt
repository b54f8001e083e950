use Rattle.floyd_formed_structs.proofs.Joining.{join_forms}
use Rattle.floyd_formed_structs.proofs.laws.join_struct_keeps_forms.Goals as goal

pub returns : goal.returns
returns c = λ defs specs g args goals formed differ row. join_forms defs specs g args goals formed differ row
