use Rattle.floyd_induction_soundness.proofs.Inducting.{induction_sound}
use Rattle.floyd_induction_soundness.proofs.laws.induction_is_sound.Goals as goal

pub returns : goal.returns
returns c = induction_sound
