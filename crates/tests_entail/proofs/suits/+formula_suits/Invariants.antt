use Rattle.std.proofs.Common.{◌≡◌, ◌+◌, ◌*◌, drop}
use Rattle.floyd_tree.specs.Formulas.{formulas, formula_height, formula_heights}
use Rattle.tests_entail.specs.Suits.{formulas_suit}
use Rattle.tests_entail.proofs.suits.+formula_suits.Given as goal

abbrev pub decreases-formula_suits : goal.decreases-formula_suits
decreases-formula_suits l = 2 * formula_height l.f.now

abbrev pub decreases-formulas_suit : goal.decreases-formulas_suit
decreases-formulas_suit l = 2 * formula_heights (formulas l.all.now) + 1

abbrev pub invariant-formulas_suit-formulas : goal.invariant-formulas_suit-formulas
invariant-formulas_suit-formulas l = formulas_suit l.binders (formulas (drop l.f-index l.all)) ≡ formulas_suit l.binders (formulas l.all)
