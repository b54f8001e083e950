use Rattle.floyd_check.proofs.RefusalFiles as law
use Rattle.floyd_check.proofs.laws.refusals_have_files.Goals as goal

pub returns : goal.returns
returns c = law.refusals_have_files
