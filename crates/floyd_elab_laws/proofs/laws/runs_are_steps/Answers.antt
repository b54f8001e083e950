use Rattle.floyd_elab_laws.proofs.StepLemmas.{run_comes}
use Rattle.floyd_elab_laws.proofs.laws.runs_are_steps.Goals as goal

pub returns : goal.returns
returns c = run_comes
