use Rattle.floyd_formed_quantifiers.proofs.Quantified.{intro_forms}
use Rattle.floyd_formed_quantifiers.proofs.laws.intro_keeps_forms.Goals as goal

pub returns : goal.returns
returns c = λ defs specs g args goals formed given row. intro_forms defs specs g args goals formed given row
