use Rattle.floyd_clight_machine.proofs.Under.{steps_alike, exit_under}
use Rattle.floyd_clight_machine.proofs.laws.steps_are_alike_above_frames.Goals as goal

pub returns-clause-steps : goal.returns-clause-steps
returns-clause-steps c = λ P l d r m u e. steps_alike P l d r m u e

pub returns-clause-exits : goal.returns-clause-exits
returns-clause-exits c = λ l d r x e. exit_under l d r x e
