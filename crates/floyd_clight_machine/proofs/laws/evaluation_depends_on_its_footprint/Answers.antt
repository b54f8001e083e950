use Rattle.floyd_clight_machine.proofs.Dependence.{value_same, place_same}
use Rattle.floyd_clight_machine.proofs.laws.evaluation_depends_on_its_footprint.Goals as goal

pub returns-clause-values : goal.returns-clause-values
returns-clause-values c = λ S j k temps e names h g. value_same j k S temps names e h g

pub returns-clause-places : goal.returns-clause-places
returns-clause-places c = λ S j k temps e names h g. place_same j k S temps names e h g
