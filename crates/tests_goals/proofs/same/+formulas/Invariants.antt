use Rattle.std.proofs.Common.{◌≡◌, ◌+◌, ◌*◌, length}
use Rattle.floyd_tree.specs.Formulas.{formulas, formula_height, formula_heights}
use Rattle.tests_goals.proofs.same.+formulas.Given as goal

abbrev pub decreases-same_formula : goal.decreases-same_formula
decreases-same_formula l = 2 * formula_height l.f.now

abbrev pub decreases-same_formulas : goal.decreases-same_formulas
decreases-same_formulas l = 2 * formula_heights (formulas l.a.now) + 1

abbrev pub invariant-same_formulas-formulas : goal.invariant-same_formulas-formulas
invariant-same_formulas-formulas l = length l.a ≡ length l.b
