use Rattle.floyd_tree_values.proofs.SizedSorts.{sort_where_sized}
use Rattle.floyd_tree_values.proofs.laws.has_sort_where_sized.Goals as goal

pub returns : goal.returns
returns c = sort_where_sized
