use Rattle.floyd_listlaw.proofs.Truths.{holds}
use Rattle.floyd_listlaw.proofs.truth.laws_hold.Goals as goal

pub returns : goal.returns
returns c = holds
