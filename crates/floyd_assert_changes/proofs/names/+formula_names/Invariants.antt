use Rattle.std.proofs.Common.{◌≡◌, ◌+◌, ◌*◌, drop}
use Rattle.floyd_tree.specs.Formulas.{formulas, formula_height, formula_heights}
use Rattle.floyd_assert_changes.specs.NamesClauses.{formulas_names}
use Rattle.floyd_assert_changes.proofs.names.+formula_names.Given as goal

abbrev pub decreases-add_formula : goal.decreases-add_formula
decreases-add_formula l = 2 * formula_height l.f.now

abbrev pub decreases-add_formulas : goal.decreases-add_formulas
decreases-add_formulas l = 2 * formula_heights (formulas l.all.now) + 1

abbrev pub invariant-add_formulas-formulas : goal.invariant-add_formulas-formulas
invariant-add_formulas-formulas l = formulas_names (formulas (drop l.formula-index l.all)) l.names ≡ formulas_names (formulas l.all) l.initial.names
