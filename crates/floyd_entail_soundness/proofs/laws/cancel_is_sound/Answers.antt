use Rattle.floyd_entail_soundness.proofs.Cancelling.{cancel_sound}
use Rattle.floyd_entail_soundness.proofs.laws.cancel_is_sound.Goals as goal

pub returns : goal.returns
returns c = λ defs specs n g args goals formed asks row h. cancel_sound defs specs n g goals formed row h
