use Rattle.floyd_entail_soundness.proofs.Validating.{valid_sound}
use Rattle.floyd_entail_soundness.proofs.laws.valid_is_sound.Goals as goal

pub returns : goal.returns
returns c = λ defs specs n g args goals formed asks row h. valid_sound defs specs n g args goals formed row h
