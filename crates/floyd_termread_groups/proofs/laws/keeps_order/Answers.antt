use Rattle.floyd_termread_groups.proofs.OrderLemmas as order
use Rattle.floyd_termread_groups.proofs.laws.keeps_order.Goals as goal

pub returns : goal.returns
returns c = order.keeps_order
