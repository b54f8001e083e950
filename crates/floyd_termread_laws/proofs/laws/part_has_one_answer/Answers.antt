use Rattle.floyd_termread_laws.proofs.Parts.{part_once}
use Rattle.floyd_termread_laws.proofs.laws.part_has_one_answer.Goals as goal

pub returns : goal.returns
returns c = part_once
