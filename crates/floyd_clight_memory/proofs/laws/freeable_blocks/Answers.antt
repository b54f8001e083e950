use Rattle.floyd_clight_memory.proofs.Places.{free_is}
use Rattle.floyd_clight_memory.proofs.laws.freeable_blocks.Goals as goal

pub returns : goal.returns
returns c = λ m block b e w. (_, free_is m block b e w)
