use Rattle.floyd_formed_renaming.proofs.Witness.{exists_forms}
use Rattle.floyd_formed_renaming.proofs.laws.exists_keeps_forms.Goals as goal

pub returns : goal.returns
returns c = λ defs specs g args goals formed w row. exists_forms defs specs g args goals formed w row
