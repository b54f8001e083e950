use Rattle.std.proofs.Common.{◌≡◌, ◌+◌, ◌*◌, take, drop, map}
use Rattle.std.specs.List.{list_all}
use Rattle.floyd_assert_changes.specs.ChangesClauses.{changes}
use Rattle.floyd_tree.specs.Formulas.{formulas, formula_height, formula_heights}
use Rattle.floyd_tree.specs.MadeFormulas.{formula_fits}
use Rattle.floyd_truth.specs.Replace.{replaced_formula}
use Rattle.floyd_assert_changes.proofs.replace_formula.+formulas.Given as goal

abbrev pub decreases-formula_after : goal.decreases-formula_after
decreases-formula_after g l = 3 * formula_height l.f.now + 2

abbrev pub decreases-below_binder : goal.decreases-below_binder
decreases-below_binder g l = 3 * formula_height l.f.now + 1

abbrev pub decreases-formulas_after : goal.decreases-formulas_after
decreases-formulas_after g l = 3 * formula_heights (formulas l.all.now) + 3

abbrev pub invariant-formulas_after-formulas : goal.invariant-formulas_after-formulas
invariant-formulas_after-formulas g l = record {
  items : l.made.items ≡ map (replaced_formula (changes l.changing)) (take l.formula-index l.all);
  fits : list_all formula_fits (map (replaced_formula (changes l.changing)) (drop l.formula-index l.all)) ≡ list_all formula_fits (map (replaced_formula (changes l.changing)) l.all);
}
