use Rattle.std.proofs.Common.{◌≡◌, ◌∷◌, drop}
use Rattle.floyd_elab.specs.Units.{parameter_scope}
use Rattle.floyd_elab.proofs.BodyLemmas.{widened}
use Rattle.floyd_elab.proofs.bodies.enter.Given as goal

abbrev pub invariant-parameters : goal.invariant-parameters
invariant-parameters l = widened l.names (parameter_scope (drop l.parameter-index l.parameters)) ≡ parameter_scope l.parameters ∷ l.fn.names
