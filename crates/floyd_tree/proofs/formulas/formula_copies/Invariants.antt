use Rattle.std.proofs.Common.{◌≡◌, take}
use Rattle.floyd_tree.proofs.formulas.formula_copies.Given as goal

abbrev pub invariant-formulas : goal.invariant-formulas
invariant-formulas l = l.all.items ≡ take l.formula-index l.formulas
