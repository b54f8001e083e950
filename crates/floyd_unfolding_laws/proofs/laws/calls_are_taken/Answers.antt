use Rattle.floyd_unfolding_laws.proofs.Taking.{takes}
use Rattle.floyd_unfolding_laws.proofs.laws.calls_are_taken.Goals as goal

pub returns : goal.returns
returns c = λ defs keeps name own e. takes defs keeps name own e
