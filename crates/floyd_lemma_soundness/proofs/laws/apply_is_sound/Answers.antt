use Rattle.floyd_lemma_soundness.proofs.Applying.{apply_sound}
use Rattle.floyd_lemma_soundness.proofs.laws.apply_is_sound.Goals as goal

pub returns : goal.returns
returns c = apply_sound
