use Rattle.floyd_elab_expressions.proofs.NodeLemmas.{address_made}
use Rattle.floyd_elab_expressions.proofs.nodes.address_of.Goals as goal

pub returns : goal.returns
returns c = address_made _ _ _ c.in_ok-new.ensures
