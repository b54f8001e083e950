use Rattle.floyd_tree_sorts.proofs.SortLemmas.{same_sorts_test}
use Rattle.floyd_tree_sorts.proofs.sorts.sorts_match.Goals as goal

pub returns : goal.returns
returns c = same_sorts_test c.same_sorts.result c.args.a.now c.args.b.now c.same_sorts.ensures
