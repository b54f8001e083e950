use Rattle.floyd_simplifying.proofs.Keeps.{truth_kept}
use Rattle.floyd_simplifying.proofs.laws.simplifying_keeps.Goals as goal

pub returns : goal.returns
returns c = truth_kept
