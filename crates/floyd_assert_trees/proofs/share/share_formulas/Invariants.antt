use Rattle.std.proofs.Common.{◌≡◌, take}
use Rattle.floyd_assert_trees.proofs.share.share_formulas.Given as goal

abbrev pub invariant-formulas : goal.invariant-formulas
invariant-formulas l = l.all.items ≡ take l.formula-index l.formulas
