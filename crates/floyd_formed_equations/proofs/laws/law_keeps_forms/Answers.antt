use Rattle.floyd_formed_equations.proofs.ByLaw.{law_forms}
use Rattle.floyd_formed_equations.proofs.laws.law_keeps_forms.Goals as goal

pub returns : goal.returns
returns c = λ defs specs g args goals formed given row. law_forms defs specs g args goals formed given row
