use Rattle.floyd_script.proofs.ReadingLemmas.{one_reading}
use Rattle.floyd_script.proofs.laws.has_one_reading.Goals as goal

pub returns : goal.returns
returns c = one_reading
