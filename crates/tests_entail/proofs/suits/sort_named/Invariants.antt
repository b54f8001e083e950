use Rattle.std.proofs.Common.{◌≡◌, drop}
use Rattle.floyd_pure_formulas.specs.VariableCases.{sort_named}
use Rattle.tests_entail.proofs.suits.sort_named.Given as goal

abbrev pub invariant-binders : goal.invariant-binders
invariant-binders l = sort_named l.name (drop l.binder-index l.binders) ≡ sort_named l.name l.binders
