use Rattle.floyd_pure_soundness.proofs.Added.{adding}
use Rattle.floyd_pure_soundness.proofs.laws.adding_is_sound.Goals as goal

pub returns : goal.returns
returns c = λ defs specs n g goals adds h. adding defs specs n g goals adds h
