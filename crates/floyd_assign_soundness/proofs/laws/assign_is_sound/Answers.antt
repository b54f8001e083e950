use Rattle.floyd_assign_soundness.proofs.Assigning.{of_assign}
use Rattle.floyd_assign_soundness.proofs.laws.assign_is_sound.Goals as goal

pub returns : goal.returns
returns c = λ defs specs n run s rest goals laid fits next is row hold. of_assign defs specs n run s rest goals laid fits next is row hold
