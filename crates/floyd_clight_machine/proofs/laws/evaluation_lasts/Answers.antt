use Rattle.floyd_clight_machine.proofs.Growth.{values_last, places_last}
use Rattle.floyd_clight_machine.proofs.laws.evaluation_lasts.Goals as goal

pub returns-clause-values : goal.returns-clause-values
returns-clause-values c = λ S j k temps e v g h. values_last S j k temps e v g h

pub returns-clause-places : goal.returns-clause-places
returns-clause-places c = λ S j k temps e s g h. places_last S j k temps e s g h
