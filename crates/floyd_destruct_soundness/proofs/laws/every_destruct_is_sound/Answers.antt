use Rattle.floyd_destruct_soundness.proofs.Sound.{destruct_sound}
use Rattle.floyd_destruct_soundness.proofs.laws.every_destruct_is_sound.Goals as goal

pub returns : goal.returns
returns c = destruct_sound
