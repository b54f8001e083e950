use Rattle.std.proofs.Common.{◌≡◌, drop}
use Rattle.floyd_pure_formulas.specs.VariableCases.{sort_named}
use Rattle.floyd_pure_formulas.proofs.constructors.sort_named.Given as goal

abbrev pub invariant-variables : goal.invariant-variables
invariant-variables l = sort_named l.x (drop l.binder-index l.variables) ≡ sort_named l.x l.variables
