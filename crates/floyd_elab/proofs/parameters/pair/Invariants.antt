use Rattle.std.proofs.Common.{◌≡◌, ◌++◌, drop}
use Rattle.floyd_elab.specs.Units.{pair as pair_lem}
use Rattle.floyd_elab.specs.UnitClauses.{names_of}
use Rattle.floyd_elab.proofs.parameters.pair.Given as goal

abbrev pub invariant-parameters : goal.invariant-parameters
invariant-parameters l = l.locals ++ pair_lem (names_of (drop l.k l.parameters)) (drop l.k l.types) ≡ pair_lem (names_of l.parameters) l.types
