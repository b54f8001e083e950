use Rattle.floyd_check.proofs.HasVerdict as law
use Rattle.floyd_check.proofs.laws.has_verdict.Goals as goal

pub returns : goal.returns
returns c = law.has_verdict
