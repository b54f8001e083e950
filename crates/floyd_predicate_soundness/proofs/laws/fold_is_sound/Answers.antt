use Rattle.floyd_predicate_soundness.proofs.Folding.{fold_sound}
use Rattle.floyd_predicate_soundness.proofs.laws.fold_is_sound.Goals as goal

pub returns : goal.returns
returns c = fold_sound
