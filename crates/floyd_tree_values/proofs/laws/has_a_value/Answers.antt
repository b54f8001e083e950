use Rattle.floyd_tree_values.proofs.AllFuns.{a_value}
use Rattle.floyd_tree_values.proofs.laws.has_a_value.Goals as goal

pub returns : goal.returns
returns c = λ defs scope env s t keeps suits fits. a_value defs scope env s t keeps suits fits
