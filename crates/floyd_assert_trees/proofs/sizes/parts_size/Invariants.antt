use Rattle.std.proofs.Common.{◌≡◌, ◌+◌, ◌-◌, ◌^◌, ◌<◌, min, drop}
use Rattle.floyd_assert_trees.specs.Sizes.{part_size}
use Rattle.floyd_assert_trees.specs.Sizes.{sum_of}
use Rattle.floyd_assert_trees.proofs.sizes.parts_size.Given as goal

abbrev pub invariant-parts : goal.invariant-parts
invariant-parts l = record {
  sum : min (l.all + sum_of part_size (drop l.part-index l.parts)) (2 ^ 64 - 1) ≡ min (sum_of part_size l.parts) (2 ^ 64 - 1);
  fits : l.all < 2 ^ 64;
}
