use Rattle.floyd_cparse.proofs.SourceLemmas.{fronts}
use Rattle.floyd_cparse.proofs.laws.beginnings_are_fronts.Goals as goal

pub returns : goal.returns
returns c = fronts
