use Rattle.floyd_forward_soundness.proofs.Leaving.{of_leave}
use Rattle.floyd_forward_soundness.proofs.laws.leaving_is_sound.Goals as goal

pub returns : goal.returns
returns c = λ defs specs n run s rest goals laid fits next is row hold. of_leave defs specs n run s rest goals laid fits next is row hold
