use Rattle.floyd_formed_arrays.proofs.Goals.{split_forms}
use Rattle.floyd_formed_arrays.proofs.laws.split_array_keeps_forms.Goals as goal

pub returns : goal.returns
returns c = λ defs specs g args goals formed number row. split_forms defs specs g args goals formed number row
