use Rattle.floyd_rewriting_laws.proofs.AssertionsKept.{assertion_kept}
use Rattle.floyd_rewriting_laws.proofs.laws.rewriting_keeps_assertions.Goals as goal

pub returns : goal.returns
returns c = assertion_kept
