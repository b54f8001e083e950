use Rattle.floyd_state_laws.proofs.States.{run_meets}
use Rattle.floyd_state_laws.proofs.laws.runs_meet_their_source.Goals as goal

pub returns : goal.returns
returns c = λ L more place defs specs run env act h has laid given fits bare stands. run_meets L more place defs specs run env act h has laid given fits bare stands
