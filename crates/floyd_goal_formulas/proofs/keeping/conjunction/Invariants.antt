use Rattle.std.proofs.Common.{◌≡◌, drop, true}
use Rattle.std.specs.Prelude.{IfSome}
use Rattle.floyd_tree.specs.MadeFormulas.{formula_fits}
use Rattle.floyd_goal_formulas.specs.Keeping.{conjunction}
use Rattle.floyd_goal_formulas.proofs.keeping.conjunction.Given as goal

abbrev pub invariant-formulas : goal.invariant-formulas
invariant-formulas g l = record {
  all : l.all ≡ conjunction (drop l.i l.formulas);
  fits : IfSome l.all (λ f. formula_fits f ≡ true);
}
