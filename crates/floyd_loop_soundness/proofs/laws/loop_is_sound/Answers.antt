use Rattle.floyd_loop_soundness.proofs.Looping.{loop_sound}
use Rattle.floyd_loop_soundness.proofs.laws.loop_is_sound.Goals as goal

pub returns : goal.returns
returns c = λ defs specs n goal args goals row hold. loop_sound defs specs n goal args goals row hold
