use Rattle.floyd_memval.proofs.RoundTrips.{decoding-encoding}
use Rattle.floyd_memval.proofs.laws.values_come_back.Goals as goal

pub returns : goal.returns
returns c = decoding-encoding
