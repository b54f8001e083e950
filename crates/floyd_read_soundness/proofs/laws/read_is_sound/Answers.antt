use Rattle.floyd_read_soundness.proofs.Reading.{of_read}
use Rattle.floyd_read_soundness.proofs.laws.read_is_sound.Goals as goal

pub returns : goal.returns
returns c = λ defs specs n run s rest goals laid fits next is row hold. of_read defs specs n run s rest goals laid fits next is row hold
