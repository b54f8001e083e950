use Rattle.floyd_truth.proofs.OneTruth.{one_truth}
use Rattle.floyd_truth.proofs.laws.have_one_truth.Goals as goal

pub returns : goal.returns
returns c = λ defs specs env p q h. one_truth defs specs env p q h
