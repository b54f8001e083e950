use Rattle.floyd_lex.proofs.OrderLemmas.{texts_in_order}
use Rattle.floyd_lex.proofs.laws.texts_stand_in_order.Goals as goal

pub returns : goal.returns
returns c = texts_in_order
