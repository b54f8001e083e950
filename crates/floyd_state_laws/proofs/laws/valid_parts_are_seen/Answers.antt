use Rattle.floyd_state_laws.proofs.States.{valid_parts_seen}
use Rattle.floyd_state_laws.proofs.laws.valid_parts_are_seen.Goals as goal

pub returns : goal.returns
returns c = λ L more place env blocks t h holds. valid_parts_seen L more place env blocks t h holds
