use Rattle.std.proofs.Common.{refl}
use Rattle.floyd_elab_laws.proofs.PlaceLemmas.{places_distinct}
use Rattle.floyd_elab_laws.proofs.laws.distinct_variables_are_distinct_places.Goals as goal

pub returns-clause-distinct : goal.returns-clause-distinct
returns-clause-distinct c = places_distinct

pub returns-clause-file : goal.returns-clause-file
returns-clause-file c = λ x t. refl

pub returns-clause-own : goal.returns-clause-own
returns-clause-own c = λ before x t. refl
