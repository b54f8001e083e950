use Rattle.floyd_condition_laws.proofs.Deciding.{decided}
use Rattle.floyd_condition_laws.proofs.laws.tests_decide.Goals as goal

pub returns : goal.returns
returns c = λ S env look temps source h known e given meets typed is met. decided S env look temps source h known meets e given typed is met
