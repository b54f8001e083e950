-- When what is proved holds.
use Rattle.std.specs.Prelude.{ℕ}
use Rattle.std.specs.List.{AllByRecursion}
use Rattle.floyd_goal_meaning.specs.GoalHolds.{HoldsFor}
use Rattle.floyd_program_soundness.specs.Proofs.{with_proved}
use Rattle.floyd_proved.specs.declared.claim.Claim.{Claim}

-- each start goal holds for every number of steps, where the lemmas that the proof may use are true
pub record IsProved (c : Claim) : Type 0 where
  pub starts : (n : ℕ) → AllByRecursion (HoldsFor (with_proved c.defs c.before) c.specs n) c.start
