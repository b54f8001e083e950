use Rattle.floyd_goal_formulas.proofs.Keepings.{kept_true}
use Rattle.floyd_goal_formulas.proofs.laws.kept_hold.Goals as goal

pub returns : goal.returns
returns c = λ defs specs scope env hs fs kept keeps suits fit k t u. kept_true defs specs scope env keeps suits hs fs kept fit k t u
