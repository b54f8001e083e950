use Rattle.floyd_termread_fronts.proofs.FrontLemmas as front
use Rattle.floyd_termread_fronts.proofs.laws.fronts_read.Goals as goal

pub returns : goal.returns
returns c = front.fronts_read
