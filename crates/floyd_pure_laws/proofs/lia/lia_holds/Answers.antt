use Rattle.floyd_pure_laws.proofs.Certifying.{lia_true}
use Rattle.floyd_pure_laws.proofs.lia.lia_holds.Goals as goal

pub returns : goal.returns
returns c = lia_true
