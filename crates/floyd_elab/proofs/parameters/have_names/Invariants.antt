use Rattle.std.proofs.Common.{◌≡◌, is_some, drop}
use Rattle.std.specs.List.{list_all}
use Rattle.floyd_elab.specs.UnitClauses.{names_of}
use Rattle.floyd_elab.proofs.parameters.have_names.Given as goal

abbrev pub invariant-parameters : goal.invariant-parameters
invariant-parameters l = list_all is_some (names_of (drop l.parameter-index l.parameters)) ≡ list_all is_some (names_of l.parameters)
