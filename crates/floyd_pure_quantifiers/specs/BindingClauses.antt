-- Words of the clauses of private functions.
use Rattle.floyd_goal_formulas.specs.Said.{Saying, ForAll, ThereIs}
use Rattle.floyd_pure_formulas.specs.InstancesClauses.{Takes}

-- a term of its sort may stand for the variable of a quantified formula
abbrev pub TakesIfAny : Saying → Type 0
TakesIfAny (ForAll x s body) = Takes x s body
TakesIfAny (ThereIs x s body) = Takes x s body
TakesIfAny saying = Unit {0}
