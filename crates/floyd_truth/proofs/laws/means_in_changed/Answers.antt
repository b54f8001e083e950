use Rattle.floyd_truth.proofs.InChanged.{means_in_changed}
use Rattle.floyd_truth.proofs.laws.means_in_changed.Goals as goal

pub returns : goal.returns
returns c = λ defs env by variables t s d e changed h. means_in_changed defs env by variables changed t s d e h
