use Rattle.floyd_return_soundness.proofs.Returning.{return_sound}
use Rattle.floyd_return_soundness.proofs.laws.return_is_sound.Goals as goal

pub returns : goal.returns
returns c = λ defs specs n run e rest goals laid fits next plain row hold. return_sound defs specs n run e rest goals laid fits next plain row hold
