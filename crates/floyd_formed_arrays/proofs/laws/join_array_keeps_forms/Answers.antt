use Rattle.floyd_formed_arrays.proofs.Goals.{join_forms}
use Rattle.floyd_formed_arrays.proofs.laws.join_array_keeps_forms.Goals as goal

pub returns : goal.returns
returns c = λ defs specs g args goals formed any row. join_forms defs specs g args goals formed row
