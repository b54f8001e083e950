use Rattle.floyd_goal_bounds.proofs.Goals.{small}
use Rattle.floyd_goal_bounds.proofs.laws.goals_are_small.Goals as goal

pub returns : goal.returns
returns c = λ defs specs g formed size few. small defs specs g formed size few
