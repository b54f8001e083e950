use Rattle.floyd_tree_sorts.proofs.SortLemmas.{same_sort_test}
use Rattle.floyd_tree_sorts.proofs.sorts.Sort.matches.Goals as goal

pub returns : goal.returns
returns c = same_sort_test c.same.result c.args.self.now c.args.other.now c.same.ensures
