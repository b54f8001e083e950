use Rattle.std.proofs.Common.{◌≡◌, ◌+◌, ◌*◌, drop}
use Rattle.floyd_tree.specs.Formulas.{formula_height, formula_heights, formulas}
use Rattle.floyd_simplifying.specs.SimplifiedClauses.{all_simplified, joined}
use Rattle.floyd_simplifying.proofs.formulas.+formulas.Given as goal

abbrev pub decreases-simplify_formula : goal.decreases-simplify_formula
decreases-simplify_formula g l = 2 * formula_height l.f.now

abbrev pub decreases-simplify_formulas : goal.decreases-simplify_formulas
decreases-simplify_formulas g l = 2 * formula_heights (formulas l.all.now) + 1

abbrev pub invariant-simplify_formulas-formulas : goal.invariant-simplify_formulas-formulas
invariant-simplify_formulas-formulas g l = joined l.changed l.made.items (drop l.formula-index l.all) (all_simplified (drop l.formula-index l.all)) ≡ all_simplified l.all
