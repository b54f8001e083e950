use Rattle.floyd_goal_laws.proofs.SideGoals.{sides_true}
use Rattle.floyd_goal_laws.proofs.laws.sides_are_true.Goals as goal

pub returns : goal.returns
returns c = λ defs specs n context fs sides fit side h L more place has apart lemmas env given. sides_true defs specs n context fs sides fit side h L more place has apart lemmas env given
