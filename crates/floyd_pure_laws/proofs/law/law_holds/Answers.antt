use Rattle.floyd_pure_laws.proofs.UsingLaws.{law_true}
use Rattle.floyd_pure_laws.proofs.law.law_holds.Goals as goal

pub returns : goal.returns
returns c = law_true
