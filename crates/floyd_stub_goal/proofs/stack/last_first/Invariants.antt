use Rattle.std.proofs.Common.{◌≡◌, ◌++◌, ◌≤◌, length, reverse}
use Rattle.floyd_stub_goal.specs.Starts.{numbered}
use Rattle.floyd_stub_goal.proofs.stack.last_first.Given as goal

abbrev pub decreases-made : goal.decreases-made
decreases-made l = length l.made

abbrev pub invariant-made : goal.invariant-made
invariant-made l = record {
  goals : numbered l.first l.made ++ reverse l.goals.items ≡ numbered l.first l.fn.made;
  fewer : length l.made ≤ length l.fn.made;
}
