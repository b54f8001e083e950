-- That a new variable may stand for that of an `exists`.
use Rattle.floyd_goal_formulas.specs.Said.{Saying, ThereIs}
use Rattle.floyd_pure_formulas.specs.InstancesClauses.{Takes}

-- each occurrence of the bound variable has its sort
abbrev pub CanOpen : Saying → Type 0
CanOpen (ThereIs y s body) = Takes y s body
CanOpen saying = Unit {0}
