use Rattle.floyd_state_laws.proofs.Forms.{parts_are_sorted}
use Rattle.floyd_state_laws.proofs.laws.parts_are_sorted.Goals as goal

pub returns : goal.returns
returns c = λ defs specs scope a fits. parts_are_sorted defs specs scope a fits
