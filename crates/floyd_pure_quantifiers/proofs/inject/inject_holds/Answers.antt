use Rattle.floyd_pure_quantifiers.proofs.Injecting.{inject_true}
use Rattle.floyd_pure_quantifiers.proofs.inject.inject_holds.Goals as goal

pub returns : goal.returns
returns c = inject_true
