use Rattle.std.proofs.Common.{subst}
use Rattle.floyd_proved.specs.Claims.{IsProved}
use Rattle.floyd_proved.proofs.claim.Proved.claim.Goals as goal

pub returns-clause-holds : goal.returns-clause-holds
returns-clause-holds c = subst IsProved c.self.view_is c.self.invariant
