use Rattle.std.proofs.Common.{◌≡◌, ◌++◌, drop}
use Rattle.floyd_link_names.specs.Names.{parameter_types}
use Rattle.floyd_link_parts.proofs.functions.types_of.Given as goal

abbrev pub invariant-parameters : goal.invariant-parameters
invariant-parameters l = l.all ++ parameter_types (drop l.parameter-index l.parameters) ≡ parameter_types l.parameters
