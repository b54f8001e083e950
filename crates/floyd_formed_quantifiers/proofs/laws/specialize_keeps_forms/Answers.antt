use Rattle.floyd_formed_quantifiers.proofs.Quantified.{specialize_forms}
use Rattle.floyd_formed_quantifiers.proofs.laws.specialize_keeps_forms.Goals as goal

pub returns : goal.returns
returns c = λ defs specs g args goals formed given row. specialize_forms defs specs g args goals formed given row
