use Rattle.floyd_pure_quantifiers.proofs.Instancing.{specialize_true}
use Rattle.floyd_pure_quantifiers.proofs.specialize.specialize_holds.Goals as goal

pub returns : goal.returns
returns c = specialize_true
