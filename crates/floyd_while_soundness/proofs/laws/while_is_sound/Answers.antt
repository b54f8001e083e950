use Rattle.floyd_while_soundness.proofs.Turning.{while_sound}
use Rattle.floyd_while_soundness.proofs.laws.while_is_sound.Goals as goal

pub returns : goal.returns
returns c = λ defs specs n goal args goals laid fits given row hold. while_sound defs specs n goal args goals laid fits given row hold
