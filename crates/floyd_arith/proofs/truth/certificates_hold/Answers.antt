use Rattle.floyd_arith.proofs.Truths.{hold}
use Rattle.floyd_arith.proofs.truth.certificates_hold.Goals as goal

pub returns : goal.returns
returns c = hold
