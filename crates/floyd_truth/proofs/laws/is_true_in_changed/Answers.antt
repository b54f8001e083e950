use Rattle.floyd_truth.proofs.InChanged.{true_in_changed}
use Rattle.floyd_truth.proofs.laws.is_true_in_changed.Goals as goal

pub returns : goal.returns
returns c = λ defs specs env by variables f w l changed h. true_in_changed defs env by variables changed specs f w l h
