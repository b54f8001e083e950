use Rattle.std.proofs.Common.{◌≡◌, ◌+◌, ◌≤◌, min, max, drop}
use Rattle.floyd_tree.specs.Formulas.{all_well_sorted, formulas, formula_sizes, formula_heights}
use Rattle.floyd_tree.proofs.formulas.formula_bounds.Given as goal

abbrev pub invariant-kids : goal.invariant-kids
invariant-kids l = record {
  size : min (l.all + formula_sizes (formulas (drop l.kid-index l.kids))) 65537 ≡ min (formula_sizes (formulas l.kids)) 65537;
  height : max l.most (formula_heights (formulas (drop l.kid-index l.kids))) ≡ formula_heights (formulas l.kids);
  sorted : all_well_sorted (formulas (drop l.kid-index l.kids)) ≡ all_well_sorted (formulas l.kids);
  small : l.all ≤ 65537;
  low : l.most ≤ 256;
}
