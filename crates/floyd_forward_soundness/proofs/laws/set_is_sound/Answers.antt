use Rattle.floyd_forward_soundness.proofs.Setting.{of_set}
use Rattle.floyd_forward_soundness.proofs.laws.set_is_sound.Goals as goal

pub returns : goal.returns
returns c = λ defs specs n run s rest goals laid fits next is row hold. of_set defs specs n run s rest goals laid fits next is row hold
