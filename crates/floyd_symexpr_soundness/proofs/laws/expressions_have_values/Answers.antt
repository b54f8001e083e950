use Rattle.floyd_symexpr_soundness.proofs.Evaluating.{expressions_agree}
use Rattle.floyd_symexpr_soundness.proofs.laws.expressions_have_values.Goals as goal

pub returns : goal.returns
returns c = λ S env look temps source h known e given state typed g met. expressions_agree S env look temps source h known state e given typed g met
