use Rattle.std.proofs.Common.{◌≡◌, ◌+◌, ◌*◌, drop}
use Rattle.floyd_tree.specs.Formulas.{formulas, formula_height, formula_heights}
use Rattle.tests_pure.specs.Known.{formulas_known}
use Rattle.tests_pure.proofs.known.+formula_known.Given as goal

abbrev pub decreases-formula_known : goal.decreases-formula_known
decreases-formula_known l = 2 * formula_height l.f.now

abbrev pub decreases-formulas_known : goal.decreases-formulas_known
decreases-formulas_known l = 2 * formula_heights (formulas l.all.now) + 1

abbrev pub invariant-formulas_known-formulas : goal.invariant-formulas_known-formulas
invariant-formulas_known-formulas l = formulas_known l.binders (formulas (drop l.f-index l.all)) ≡ formulas_known l.binders (formulas l.all)
