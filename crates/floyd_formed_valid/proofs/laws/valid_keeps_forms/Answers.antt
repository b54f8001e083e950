use Rattle.floyd_formed_valid.proofs.Validated.{valid_forms}
use Rattle.floyd_formed_valid.proofs.laws.valid_keeps_forms.Goals as goal

pub returns : goal.returns
returns c = λ defs specs g args goals formed none row. valid_forms defs specs g args goals formed row
