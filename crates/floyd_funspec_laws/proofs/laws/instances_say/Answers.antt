use Rattle.floyd_funspec_laws.proofs.Says.{instance_says}
use Rattle.floyd_funspec_laws.proofs.laws.instances_say.Goals as goal

pub returns : goal.returns
returns c = λ defs specs spec terms i fit e S env ds bare global are mean. instance_says defs specs spec terms i fit e S env ds bare global are mean
