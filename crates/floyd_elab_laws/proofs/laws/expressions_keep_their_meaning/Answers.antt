use Rattle.floyd_elab_laws.proofs.MeaningLaws.{expression_kept}
use Rattle.floyd_elab_laws.proofs.laws.expressions_keep_their_meaning.Goals as goal

pub returns : goal.returns
returns c = expression_kept
