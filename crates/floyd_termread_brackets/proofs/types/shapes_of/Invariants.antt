use Rattle.std.proofs.Common.{◌≡◌, map, take}
use Rattle.floyd_termread_brackets.specs.Brackets.{type_shape}
use Rattle.floyd_termread_brackets.proofs.types.shapes_of.Given as goal

abbrev pub invariant-types : goal.invariant-types
invariant-types l = l.all ≡ map type_shape (take l.t-index l.types)
