use Rattle.floyd_simplifying.proofs.Keeps.{value_kept}
use Rattle.floyd_simplifying.proofs.laws.simplifying_keeps_value.Goals as goal

pub returns : goal.returns
returns c = value_kept
