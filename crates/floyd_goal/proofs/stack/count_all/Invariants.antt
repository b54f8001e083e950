use Rattle.std.proofs.Common.{◌≡◌, ◌+◌}
use Rattle.floyd_goal.proofs.stack.count_all.Given as goal

abbrev pub invariant-goals : goal.invariant-goals
invariant-goals g l = l.steps ≡ l.initial.steps + l._goal
