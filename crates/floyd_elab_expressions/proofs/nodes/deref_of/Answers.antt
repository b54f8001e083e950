use Rattle.floyd_elab_expressions.proofs.NodeLemmas.{deref_made}
use Rattle.floyd_elab_expressions.proofs.nodes.deref_of.Goals as goal

pub returns : goal.returns
returns c = deref_made _ _ _ c.in_ok-new.ensures
