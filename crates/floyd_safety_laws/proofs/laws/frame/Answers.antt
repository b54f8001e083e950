use Rattle.floyd_clight_runs.proofs.Safety.{frame}
use Rattle.floyd_goal_meaning.specs.Worlds.{world}
use Rattle.floyd_safety_laws.specs.Laws.{ways}
use Rattle.floyd_safety_laws.proofs.laws.frame.Goals as goal

pub returns : goal.returns
returns c = λ L more place l n d h f k env exits j s. frame (world L more place) l n d h f k (ways L more place env exits) j s
