use Rattle.std.proofs.Common.{◌≡◌, drop}
use Rattle.floyd_tree.specs.Formulas.{formulas, formulas_mention}
use Rattle.floyd_rewriting.proofs.hole_names.some_mention.Given as goal

abbrev pub invariant-formulas : goal.invariant-formulas
invariant-formulas l = formulas_mention l.x (formulas (drop l.formula-index l.all)) ≡ formulas_mention l.x (formulas l.all)
