use Rattle.floyd_switch_soundness.proofs.Switching.{switch_sound}
use Rattle.floyd_switch_soundness.proofs.laws.switch_is_sound.Goals as goal

pub returns : goal.returns
returns c = λ defs specs n goal args goals laid fits row hold. switch_sound defs specs n goal args goals laid fits row hold
