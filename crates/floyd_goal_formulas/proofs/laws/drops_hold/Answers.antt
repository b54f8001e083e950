use Rattle.floyd_goal_formulas.proofs.Dropped.{drops_true}
use Rattle.floyd_goal_formulas.proofs.laws.drops_hold.Goals as goal

pub returns : goal.returns
returns c = λ defs specs scope env hs f keeps suits fit d t. drops_true defs specs scope env keeps suits hs f fit d t
