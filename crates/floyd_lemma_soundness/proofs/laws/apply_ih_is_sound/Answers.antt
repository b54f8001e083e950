use Rattle.floyd_lemma_soundness.proofs.Hypotheses.{apply_ih_sound}
use Rattle.floyd_lemma_soundness.proofs.laws.apply_ih_is_sound.Goals as goal

pub returns : goal.returns
returns c = apply_ih_sound
