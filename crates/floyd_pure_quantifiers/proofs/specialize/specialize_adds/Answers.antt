use Rattle.floyd_pure_quantifiers.proofs.Instancing.{specialize_adding}
use Rattle.floyd_pure_quantifiers.proofs.specialize.specialize_adds.Goals as goal

pub returns : goal.returns
returns c = specialize_adding
