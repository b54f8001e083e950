use Rattle.std.proofs.Common.{◌≡◌, map, take}
use Rattle.floyd_pure_formulas.specs.VariableCases.{as_term}
use Rattle.floyd_pure_formulas.proofs.constructors.variables_of.Given as goal

abbrev pub invariant-binders : goal.invariant-binders
invariant-binders g l = l.all.items ≡ map as_term (take l.binder-index l.binders)
