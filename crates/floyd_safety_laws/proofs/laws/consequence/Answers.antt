use Rattle.floyd_clight_runs.proofs.Safety.{conseq}
use Rattle.floyd_goal_meaning.specs.Worlds.{world}
use Rattle.floyd_safety_laws.specs.Laws.{ways}
use Rattle.floyd_safety_laws.proofs.laws.consequence.Goals as goal

pub returns : goal.returns
returns c = λ L more place l n d h env other exits weaker k s. conseq (world L more place) l n d h (ways L more place env exits) (ways L more place other weaker) k s
