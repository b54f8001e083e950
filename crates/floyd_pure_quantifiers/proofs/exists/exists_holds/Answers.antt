use Rattle.floyd_pure_quantifiers.proofs.Instancing.{exists_true}
use Rattle.floyd_pure_quantifiers.proofs.exists.exists_holds.Goals as goal

pub returns : goal.returns
returns c = exists_true
