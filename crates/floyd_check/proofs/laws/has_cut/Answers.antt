use Rattle.floyd_check.proofs.HasCut as law
use Rattle.floyd_check.proofs.laws.has_cut.Goals as goal

pub returns : goal.returns
returns c = law.has_cut
