use Rattle.std.proofs.Common.{◌≡◌, drop}
use Rattle.floyd_tree.specs.FormulaPrints.{formula_prints_from}
use Rattle.floyd_tree.specs.Formulas.{formulas}
use Rattle.floyd_tree.proofs.formulas.prints.Given as goal

abbrev pub invariant-kids : goal.invariant-kids
invariant-kids l = formula_prints_from l.print (formulas (drop l.kid-index l.kids)) ≡ formula_prints_from l.start (formulas l.kids)
