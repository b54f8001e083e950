use Rattle.floyd_play_scopes.proofs.BindLemmas.{one_bound}
use Rattle.floyd_play_scopes.proofs.scopes.bind_one.Goals as goal

pub returns : goal.returns
returns c = one_bound _ _ _ _ _ c.in_ok-name.ensures c.in_ok-sort.ensures c.in_ok-_hidden.ensures.bound
