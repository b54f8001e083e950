use Rattle.floyd_elab_laws.proofs.EffectLemmas.{values_read, effects_read, bodies_read}
use Rattle.floyd_elab_laws.proofs.LoadLemmas.{values_unread, places_unread}
use Rattle.floyd_elab_laws.proofs.laws.memory_is_read_by_pulls.Goals as goal

pub returns-clause-values : goal.returns-clause-values
returns-clause-values c = values_read

pub returns-clause-effects : goal.returns-clause-effects
returns-clause-effects c = effects_read

pub returns-clause-bodies : goal.returns-clause-bodies
returns-clause-bodies c = bodies_read

pub returns-clause-loads_of_values : goal.returns-clause-loads_of_values
returns-clause-loads_of_values c = values_unread

pub returns-clause-loads_of_places : goal.returns-clause-loads_of_places
returns-clause-loads_of_places c = places_unread
