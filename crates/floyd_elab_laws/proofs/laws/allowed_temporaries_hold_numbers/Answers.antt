use Rattle.floyd_elab_laws.proofs.HeldLemmas.{allowed_hold}
use Rattle.floyd_elab_laws.proofs.laws.allowed_temporaries_hold_numbers.Goals as goal

pub returns : goal.returns
returns c = allowed_hold
