use Rattle.floyd_elab_expressions.proofs.NodeLemmas.{cast_made}
use Rattle.floyd_elab_expressions.proofs.nodes.cast_of.Goals as goal

pub returns : goal.returns
returns c = cast_made _ _ _ c.in_ok-new.ensures
