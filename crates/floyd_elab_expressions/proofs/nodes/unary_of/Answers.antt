use Rattle.floyd_elab_expressions.proofs.NodeLemmas.{unary_made}
use Rattle.floyd_elab_expressions.proofs.nodes.unary_of.Goals as goal

pub returns : goal.returns
returns c = unary_made _ _ _ _ c.in_ok-new.ensures
