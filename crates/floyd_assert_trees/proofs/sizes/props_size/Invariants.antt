use Rattle.std.proofs.Common.{◌≡◌, ◌+◌, ◌-◌, ◌^◌, ◌<◌, min, drop}
use Rattle.floyd_tree.specs.Formulas.{formula_size}
use Rattle.floyd_assert_trees.specs.Sizes.{sum_of}
use Rattle.floyd_assert_trees.proofs.sizes.props_size.Given as goal

abbrev pub invariant-props : goal.invariant-props
invariant-props l = record {
  sum : min (l.all + sum_of formula_size (drop l.prop-index l.props)) (2 ^ 64 - 1) ≡ min (sum_of formula_size l.props) (2 ^ 64 - 1);
  fits : l.all < 2 ^ 64;
}
