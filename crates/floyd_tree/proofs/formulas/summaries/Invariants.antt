use Rattle.std.proofs.Common.{◌≡◌, drop}
use Rattle.floyd_tree.specs.FormulaPrints.{formula_summaries_from}
use Rattle.floyd_tree.specs.Formulas.{formulas}
use Rattle.floyd_tree.proofs.formulas.summaries.Given as goal

abbrev pub invariant-kids : goal.invariant-kids
invariant-kids l = formula_summaries_from l.summary (formulas (drop l.kid-index l.kids)) ≡ formula_summaries_from l.start (formulas l.kids)
