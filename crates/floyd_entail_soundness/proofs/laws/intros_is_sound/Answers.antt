use Rattle.floyd_entail_soundness.proofs.Naming.{intros_sound}
use Rattle.floyd_entail_soundness.proofs.laws.intros_is_sound.Goals as goal

pub returns : goal.returns
returns c = λ defs specs n g args goals formed asks row h. intros_sound defs specs n g args goals formed asks row h
