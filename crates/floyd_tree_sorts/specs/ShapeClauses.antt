-- The arrays of shapes in order.
use Rattle.std.specs.Prelude.{ℕ, ◌+◌, List, [], ◌∷◌}
use Rattle.floyd_tree_sorts.specs.declared.shape.Shape.{Shape}
use Rattle.floyd_tree_sorts.specs.Table.{arrays}

abbrev pub arrays_of : List Shape → ℕ
arrays_of [] = 0
arrays_of (shape ∷ more) = arrays shape + arrays_of more
