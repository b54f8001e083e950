use Rattle.std.proofs.Common.{List, ◌++◌, drop}
use Rattle.floyd_tree.specs.Formulas.{PlainFormula}
use Rattle.floyd_goal_formulas.specs.Keeping.{Kept}
use Rattle.floyd_goal_formulas.proofs.keeping.kept.Given as goal

abbrev pub invariant-formulas : goal.invariant-formulas
invariant-formulas l = (more : List PlainFormula) → Kept l.hypotheses (drop l.formula-index l.formulas) more → Kept l.hypotheses l.formulas (l.all ++ more)
