use Rattle.std.proofs.Common.{◌≡◌, take}
use Rattle.floyd_play_steps.proofs.sharing.share_goals.Given as goal

abbrev pub invariant-goals : goal.invariant-goals
invariant-goals l = l.all.items ≡ take l.goal-index l.goals
