use Rattle.floyd_goal_meaning.proofs.Sights.{given}
use Rattle.floyd_goal_meaning.proofs.laws.sight_is_given.Goals as goal

pub returns : goal.returns
returns c = λ L more place table seen f x args h p. given L more place table seen f x args h p
