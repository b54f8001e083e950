use Rattle.floyd_formed_equations.proofs.Equations.{split_forms}
use Rattle.floyd_formed_equations.proofs.laws.split_keeps_forms.Goals as goal

pub returns : goal.returns
returns c = λ defs specs g args goals formed given row. split_forms defs specs g args goals formed given row
