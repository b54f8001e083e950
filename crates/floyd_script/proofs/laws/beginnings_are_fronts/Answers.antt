use Rattle.floyd_script.proofs.ReadingLemmas.{fronts}
use Rattle.floyd_script.proofs.laws.beginnings_are_fronts.Goals as goal

pub returns : goal.returns
returns c = fronts
