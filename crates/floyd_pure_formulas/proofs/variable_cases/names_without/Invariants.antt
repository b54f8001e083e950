use Rattle.std.proofs.Common.{◌≡◌, ◌++◌, drop}
use Rattle.floyd_pure_formulas.specs.VariableCases.{names_without}
use Rattle.floyd_pure_formulas.proofs.variable_cases.names_without.Given as goal

abbrev pub invariant-names : goal.invariant-names
invariant-names l = l.all ++ names_without l.x (drop l.name-index l.names) ≡ names_without l.x l.names
