use Rattle.floyd_elab_expressions.proofs.NodeLemmas.{binary_made}
use Rattle.floyd_elab_expressions.proofs.nodes.binary_of.Goals as goal

pub returns : goal.returns
returns c = binary_made _ _ _ _ _ _ c.in_ok-a.ensures c.in_ok-new.ensures
