use Rattle.floyd_symexpr_forms.proofs.Readings.{evaluation_fits}
use Rattle.floyd_symexpr_forms.proofs.laws.evaluations_fit.Goals as goal

pub returns : goal.returns
returns c = λ defs scope source e given fits f. evaluation_fits defs scope source fits e given f
