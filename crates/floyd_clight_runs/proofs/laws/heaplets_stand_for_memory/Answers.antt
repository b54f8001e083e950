use Rattle.floyd_clight_runs.proofs.Evaluated.{evaluated}
use Rattle.floyd_clight_runs.proofs.laws.heaplets_stand_for_memory.Goals as goal

pub returns : goal.returns
returns c = λ P act h m e v f a i. let r = evaluated P act h m e v f a i in (r.is, r.reads)
