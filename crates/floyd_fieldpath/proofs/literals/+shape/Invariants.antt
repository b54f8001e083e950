use Rattle.std.proofs.Common.{◌≡◌, map, take}
use Rattle.floyd_assert_cells.specs.Types.{shape_of}
use Rattle.floyd_fieldpath.proofs.literals.+shape.Given as goal

abbrev pub invariant-shapes_of-types : goal.invariant-shapes_of-types
invariant-shapes_of-types l = l.all ≡ map shape_of (take l.t-index l.types)
