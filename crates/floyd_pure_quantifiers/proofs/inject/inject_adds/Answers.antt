use Rattle.floyd_pure_quantifiers.proofs.Injecting.{inject_adding}
use Rattle.floyd_pure_quantifiers.proofs.inject.inject_adds.Goals as goal

pub returns : goal.returns
returns c = inject_adding
