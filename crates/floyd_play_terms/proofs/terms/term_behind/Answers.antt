use Rattle.floyd_play_terms.proofs.terms.term_behind.Goals as goal

pub returns-clause-exact : goal.returns-clause-exact
returns-clause-exact c = rw c.in_ok-sort.ensures at c.term_with.ensures.exact
