-- What the parts of the walk along a path answer.
use Rattle.std.specs.Prelude.{ℤ, List, [], ◌∷◌, ◌++◌}
use Rattle.floyd_ctypes.specs.declared.ctype.CType.{CType}
use Rattle.floyd_assert_cells.specs.Types.{sizes_of}

-- the array sizes of types in order
abbrev pub sizes_of_all : List CType → List ℤ
sizes_of_all [] = []
sizes_of_all (t ∷ types) = sizes_of t ++ sizes_of_all types
