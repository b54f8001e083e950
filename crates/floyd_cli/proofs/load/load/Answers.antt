use Rattle.floyd_cli.proofs.ProjectLemmas.{project_stopped}
use Rattle.floyd_cli.proofs.load.load.Goals as goal

pub returns-in-Err-clause-gives : goal.returns-in-Err-clause-gives
returns-in-Err-clause-gives g c = project_stopped _ _ _ _ _ c.in-Err.ensures.gives
