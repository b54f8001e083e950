use Rattle.floyd_tree_values.proofs.OneValue.{one_value}
use Rattle.floyd_tree_values.proofs.laws.has_one_value.Goals as goal

pub returns : goal.returns
returns c = λ defs env t a b m n. one_value defs m b n
