use Rattle.floyd_elab_expressions.proofs.NodeLemmas.{field_made}
use Rattle.floyd_elab_expressions.proofs.nodes.field_of.Goals as goal

pub returns : goal.returns
returns c = field_made _ _ _ _ c.in_ok-new.ensures
