use Rattle.floyd_play_terms.proofs.terms.term_with.Goals as goal

pub returns-in-Some-clause-exact : goal.returns-in-Some-clause-exact
returns-in-Some-clause-exact c = rw c.in-Some.is c.term_at.ensures.exact

pub returns-clause-exact : goal.returns-clause-exact
returns-clause-exact c = rw c.in-None.is c.term_at-in-None.ensures.exact
