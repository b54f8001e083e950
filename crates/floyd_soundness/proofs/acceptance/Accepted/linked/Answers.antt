use Rattle.std.proofs.Common.{subst}
use Rattle.floyd_soundness.specs.Accepted.{IsSoundProgram}
use Rattle.floyd_soundness.proofs.acceptance.Accepted.linked.Goals as goal

pub returns-clause-sound : goal.returns-clause-sound
returns-clause-sound c = subst IsSoundProgram c.self.view_is c.self.invariant.program
