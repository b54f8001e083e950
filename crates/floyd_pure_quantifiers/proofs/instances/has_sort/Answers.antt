use Rattle.floyd_pure_quantifiers.proofs.Taking.{has_sort_is}
use Rattle.floyd_pure_quantifiers.proofs.instances.has_sort.Goals as goal

pub returns : goal.returns
returns c = has_sort_is c.same.result c.args.t.now c.args.s.now c.sort.result.now c.sort.ensures c.same.ensures
