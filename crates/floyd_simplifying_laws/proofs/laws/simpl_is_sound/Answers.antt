use Rattle.floyd_simplifying_laws.proofs.Sound.{simpl_sound}
use Rattle.floyd_simplifying_laws.proofs.laws.simpl_is_sound.Goals as goal

pub returns : goal.returns
returns c = simpl_sound
