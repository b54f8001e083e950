use Rattle.std.proofs.Common.{drop}
use Rattle.floyd_play_steps.specs.Few.{AllHaveFew}
use Rattle.floyd_play_steps.proofs.few.all_have_few.Given as goal

abbrev pub invariant-goals : goal.invariant-goals
invariant-goals l = AllHaveFew (drop l.goal-index l.goals) → AllHaveFew l.goals
