use Rattle.floyd_play_conditions.proofs.Meeting.{meets}
use Rattle.floyd_play_conditions.proofs.laws.commands_meet.Goals as goal

pub returns : goal.returns
returns c = meets
