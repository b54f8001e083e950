use Rattle.std.proofs.Common.{◌≡◌, ◌≤◌, ◌++◌}
use Rattle.floyd_play_steps.specs.Numbers.{numbers_behind}
use Rattle.floyd_play_steps.proofs.numbers.NumberList.under_all.Given as goal

abbrev pub decreases-numbers : goal.decreases-numbers
decreases-numbers l = l.left

abbrev pub invariant-numbers : goal.invariant-numbers
invariant-numbers l = record {
  numbers : numbers_behind l.made l.left ++ l.list ≡ numbers_behind l.made l.count ++ l.fn.self;
  within : l.left ≤ l.count;
}
