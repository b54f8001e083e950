use Rattle.floyd_compatible_laws.proofs.Agreeing.{objects_agree, places_agree}
use Rattle.floyd_compatible_laws.proofs.laws.compatible_places_agree.Goals as goal

pub returns-clause-types : goal.returns-clause-types
returns-clause-types c = λ structs t path block offset. places_agree structs t path block offset

pub returns-clause-shapes : goal.returns-clause-shapes
returns-clause-shapes c = λ structs t steps subscripts path block offset count of_steps. objects_agree structs t steps subscripts path block offset count of_steps
