use Rattle.std.proofs.Common.{◌≡◌, ◌++◌, drop}
use Rattle.floyd_pure_formulas.specs.VariableCases.{without}
use Rattle.floyd_pure_formulas.proofs.variable_cases.without.Given as goal

abbrev pub invariant-variables : goal.invariant-variables
invariant-variables l = l.all ++ without l.x (drop l.binder-index l.variables) ≡ without l.x l.variables
