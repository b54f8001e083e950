use Rattle.floyd_check.proofs.OneVerdict as law
use Rattle.floyd_check.proofs.laws.one_verdict.Goals as goal

pub returns : goal.returns
returns c = law.one_verdict
