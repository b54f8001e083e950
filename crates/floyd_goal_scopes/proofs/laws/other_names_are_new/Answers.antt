use Rattle.floyd_goal_scopes.proofs.Goals.{free_names, other_names}
use Rattle.floyd_goal_scopes.proofs.laws.other_names_are_new.Goals as goal

pub returns-clause-free : goal.returns-clause-free
returns-clause-free c = λ defs specs g v h k. free_names defs specs g v h k

pub returns-clause-new : goal.returns-clause-new
returns-clause-new c = λ defs specs g names h distinct apart. other_names defs specs g names h distinct apart
