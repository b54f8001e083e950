use Rattle.std.proofs.Common.{◌≡◌, ◌+◌, ◌*◌, drop}
use Rattle.floyd_tree.specs.Formulas.{formula_height, formula_heights, formulas}
use Rattle.floyd_simplifying.specs.SimplifiedClauses.{joined}
use Rattle.floyd_unfolding.specs.UnfoldedClauses.{all_unfolded}
use Rattle.floyd_unfolding.proofs.formulas.+formulas.Given as goal

abbrev pub decreases-unfold_formula : goal.decreases-unfold_formula
decreases-unfold_formula g l = 2 * formula_height l.f.now

abbrev pub decreases-unfold_formulas : goal.decreases-unfold_formulas
decreases-unfold_formulas g l = 2 * formula_heights (formulas l.all.now) + 1

abbrev pub invariant-unfold_formulas-formulas : goal.invariant-unfold_formulas-formulas
invariant-unfold_formulas-formulas g l = joined l.changed l.made.items (drop l.formula-index l.all) (all_unfolded l.name l.own (drop l.formula-index l.all)) ≡ all_unfolded l.name l.own l.all
