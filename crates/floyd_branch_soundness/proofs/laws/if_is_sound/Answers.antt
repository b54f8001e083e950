use Rattle.floyd_branch_soundness.proofs.Branching.{if_sound}
use Rattle.floyd_branch_soundness.proofs.laws.if_is_sound.Goals as goal

pub returns : goal.returns
returns c = λ defs specs n goal args goals laid fits row hold. if_sound defs specs n goal args goals laid fits row hold
