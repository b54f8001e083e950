use Rattle.floyd_symexpr_soundness.proofs.Locating.{objects_lie_in_parts}
use Rattle.floyd_symexpr_soundness.proofs.laws.objects_lie_in_parts.Goals as goal

pub returns : goal.returns
returns c = λ S env look temps source h known e given state typed sorted g met. objects_lie_in_parts S env look temps source h known state e given typed sorted g met
