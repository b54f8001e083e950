use Rattle.floyd_termread_assertions.proofs.BoundLemmas.{one_bound}
use Rattle.floyd_termread_assertions.proofs.existentials.bind_one.Goals as goal

pub returns : goal.returns
returns c = one_bound _ _ _ _ _ c.in_ok-name.ensures c.in_ok-sort.ensures c.in_ok-_hidden.ensures.bound
