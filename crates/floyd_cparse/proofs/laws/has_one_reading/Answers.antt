use Rattle.floyd_cparse.proofs.SourceLemmas.{one_reading}
use Rattle.floyd_cparse.proofs.laws.has_one_reading.Goals as goal

pub returns : goal.returns
returns c = one_reading
