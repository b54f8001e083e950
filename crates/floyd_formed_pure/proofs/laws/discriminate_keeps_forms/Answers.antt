use Rattle.floyd_formed_pure.proofs.Closing.{discriminate_forms}
use Rattle.floyd_formed_pure.proofs.laws.discriminate_keeps_forms.Goals as goal

pub returns : goal.returns
returns c = λ defs specs g args goals formed given row. discriminate_forms defs specs g args goals formed given row
