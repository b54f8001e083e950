use Rattle.floyd_goal_truth.proofs.Sides.{side_sound}
use Rattle.floyd_goal_truth.proofs.laws.side_is_sound.Goals as goal

pub returns : goal.returns
returns c = λ defs specs context fs sides keeps fit side true env suits hyps. side_sound defs specs context fs sides keeps fit side true env suits hyps
