use Rattle.floyd_termread_laws.proofs.Binders.{sort_once, binders_once, existentials_once}
use Rattle.floyd_termread_laws.proofs.laws.binders_have_one_answer.Goals as goal

pub returns : goal.returns
returns c bytes list depth = (sort_once bytes list depth, binders_once bytes list depth, existentials_once bytes list depth)
