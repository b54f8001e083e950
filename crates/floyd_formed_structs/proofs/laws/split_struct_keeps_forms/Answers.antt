use Rattle.floyd_formed_structs.proofs.Splitting.{split_forms}
use Rattle.floyd_formed_structs.proofs.laws.split_struct_keeps_forms.Goals as goal

pub returns : goal.returns
returns c = λ defs specs g args goals formed any row. split_forms defs specs g args goals formed row
