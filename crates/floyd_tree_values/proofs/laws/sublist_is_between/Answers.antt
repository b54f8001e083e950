use Rattle.floyd_tree_values.proofs.Places.{sublist_is_between}
use Rattle.floyd_tree_values.proofs.laws.sublist_is_between.Goals as goal

pub returns : goal.returns
returns c = sublist_is_between
