use Rattle.floyd_play_laws.proofs.Deriving.{holding}
use Rattle.floyd_play_laws.proofs.laws.derived_goals_hold.Goals as goal

pub returns : goal.returns
returns c = holding
