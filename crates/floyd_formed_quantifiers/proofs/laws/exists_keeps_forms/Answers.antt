use Rattle.floyd_formed_quantifiers.proofs.Quantified.{exists_forms}
use Rattle.floyd_formed_quantifiers.proofs.laws.exists_keeps_forms.Goals as goal

pub returns : goal.returns
returns c = λ defs specs g args goals formed given row. exists_forms defs specs g args goals formed given row
