use Rattle.std.proofs.Common.{◌≡◌, drop}
use Rattle.floyd_tree_sorts.specs.Table.{all_z}
use Rattle.floyd_tree_sorts.proofs.sorts.all_z.Given as goal

abbrev pub invariant-sorts : goal.invariant-sorts
invariant-sorts l = all_z (drop l.sort-index l.sorts) ≡ all_z l.sorts
