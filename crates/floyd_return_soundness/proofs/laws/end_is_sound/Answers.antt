use Rattle.floyd_return_soundness.proofs.Returning.{end_sound}
use Rattle.floyd_return_soundness.proofs.laws.end_is_sound.Goals as goal

pub returns : goal.returns
returns c = λ defs specs n run goals fits next row hold. end_sound defs specs n run goals fits next row hold
