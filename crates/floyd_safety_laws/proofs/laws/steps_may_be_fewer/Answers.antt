use Rattle.floyd_clight_runs.proofs.Safety.{one_less}
use Rattle.floyd_goal_meaning.specs.Worlds.{world}
use Rattle.floyd_safety_laws.specs.Laws.{ways}
use Rattle.floyd_safety_laws.proofs.laws.steps_may_be_fewer.Goals as goal

pub returns : goal.returns
returns c = λ L more place l n d h env exits s. one_less (world L more place) l n d h (ways L more place env exits) s
