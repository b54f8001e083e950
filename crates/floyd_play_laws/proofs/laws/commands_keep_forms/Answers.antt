use Rattle.floyd_play_laws.proofs.Deriving.{keeping}
use Rattle.floyd_play_laws.proofs.laws.commands_keep_forms.Goals as goal

pub returns : goal.returns
returns c = keeping
