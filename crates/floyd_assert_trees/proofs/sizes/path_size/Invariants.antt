use Rattle.std.proofs.Common.{◌≡◌, ◌+◌, ◌-◌, ◌^◌, ◌<◌, min, drop}
use Rattle.floyd_assert_trees.specs.Sizes.{step_size, sum_of}
use Rattle.floyd_assert_trees.proofs.sizes.path_size.Given as goal

abbrev pub invariant-steps : goal.invariant-steps
invariant-steps l = record {
  sum : min (l.all + sum_of step_size (drop l.i l.path)) (2 ^ 64 - 1) ≡ min (sum_of step_size l.path) (2 ^ 64 - 1);
  fits : l.all < 2 ^ 64;
}
