use Rattle.floyd_predicate_soundness.proofs.Unfolding.{unfold_sound}
use Rattle.floyd_predicate_soundness.proofs.laws.unfold_is_sound.Goals as goal

pub returns : goal.returns
returns c = unfold_sound
