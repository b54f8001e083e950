use Rattle.floyd_elab_laws.proofs.MeaningLaws.{straight_kept}
use Rattle.floyd_elab_laws.proofs.laws.straight_expressions_keep_their_meaning.Goals as goal

pub returns : goal.returns
returns c = straight_kept
