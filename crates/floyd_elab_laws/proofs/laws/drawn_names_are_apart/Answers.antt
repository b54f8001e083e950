use Rattle.floyd_elab_laws.proofs.NameLemmas.{pulled_differ, variables_apart}
use Rattle.floyd_elab_laws.proofs.laws.drawn_names_are_apart.Goals as goal

pub returns-clause-pulled : goal.returns-clause-pulled
returns-clause-pulled c = pulled_differ

pub returns-clause-variables : goal.returns-clause-variables
returns-clause-variables c = variables_apart
