use Rattle.floyd_termread_laws.proofs.Assertions.{assertion_once}
use Rattle.floyd_termread_laws.proofs.laws.assertion_has_one_answer.Goals as goal

pub returns : goal.returns
returns c = assertion_once
