use Rattle.floyd_formed_equations.proofs.Equations.{inject_forms}
use Rattle.floyd_formed_equations.proofs.laws.inject_keeps_forms.Goals as goal

pub returns : goal.returns
returns c = λ defs specs g args goals formed given row. inject_forms defs specs g args goals formed given row
