use Rattle.std.proofs.Common.{◌≡◌, ◌+◌, ◌-◌, ◌^◌, ◌<◌, min, drop}
use Rattle.floyd_assert_trees.specs.Sizes.{local_size}
use Rattle.floyd_assert_trees.specs.Sizes.{sum_of}
use Rattle.floyd_assert_trees.proofs.sizes.locals_size.Given as goal

abbrev pub invariant-locals : goal.invariant-locals
invariant-locals l = record {
  sum : min (l.all + sum_of local_size (drop l.local-index l.locals)) (2 ^ 64 - 1) ≡ min (sum_of local_size l.locals) (2 ^ 64 - 1);
  fits : l.all < 2 ^ 64;
}
