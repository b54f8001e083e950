use Rattle.floyd_rewriting_soundness.proofs.Sound.{rewrite_sound}
use Rattle.floyd_rewriting_soundness.proofs.laws.rewrite_is_sound.Goals as goal

pub returns : goal.returns
returns c = rewrite_sound
