use Rattle.floyd_play_laws.proofs.Deriving.{keeping}
use Rattle.floyd_play.proofs.proving.play_to.Goals as goal

pub play_to-requires-clause-keep : goal.play_to-requires-clause-keep
play_to-requires-clause-keep c = keeping c.args.defs.now c.args.specs.now c.requires.lawful
