use Rattle.floyd_entail_soundness.proofs.Putting.{exists_sound}
use Rattle.floyd_entail_soundness.proofs.laws.exists_is_sound.Goals as goal

pub returns : goal.returns
returns c = λ defs specs n g args goals formed asks row h. exists_sound defs specs n g args goals formed asks row h
