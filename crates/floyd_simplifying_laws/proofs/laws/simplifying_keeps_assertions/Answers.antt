use Rattle.floyd_simplifying_laws.proofs.AssertionsKept.{assertion_kept}
use Rattle.floyd_simplifying_laws.proofs.laws.simplifying_keeps_assertions.Goals as goal

pub returns : goal.returns
returns c = assertion_kept
