use Rattle.floyd_pure_laws.proofs.UsingLaws.{law_adding}
use Rattle.floyd_pure_laws.proofs.law.law_adds.Goals as goal

pub returns : goal.returns
returns c = law_adding
