use Rattle.std.proofs.Common.{◌≡◌, ◌+◌, ◌-◌, ◌^◌, ◌<◌, min, drop}
use Rattle.floyd_tree.specs.Plain.{size}
use Rattle.floyd_assert_trees.specs.Sizes.{sum_of}
use Rattle.floyd_assert_trees.proofs.sizes.terms_size.Given as goal

abbrev pub invariant-terms : goal.invariant-terms
invariant-terms l = record {
  sum : min (l.all + sum_of size (drop l.term-index l.terms)) (2 ^ 64 - 1) ≡ min (sum_of size l.terms) (2 ^ 64 - 1);
  fits : l.all < 2 ^ 64;
}
