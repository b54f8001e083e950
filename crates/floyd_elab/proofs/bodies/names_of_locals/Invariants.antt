use Rattle.std.proofs.Common.{◌≡◌, ◌++◌, drop}
use Rattle.floyd_elab.specs.UnitClauses.{local_names}
use Rattle.floyd_elab.proofs.bodies.names_of_locals.Given as goal

abbrev pub invariant-parameters : goal.invariant-parameters
invariant-parameters l = l.names ++ local_names (drop l.parameter-index l.parameters) ≡ local_names l.parameters
