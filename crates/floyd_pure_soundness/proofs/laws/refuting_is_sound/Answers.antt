use Rattle.floyd_pure_soundness.proofs.Added.{refuting}
use Rattle.floyd_pure_soundness.proofs.laws.refuting_is_sound.Goals as goal

pub returns : goal.returns
returns c = λ defs specs n g refutes. refuting defs specs n g refutes
