-- Words of private clauses: limits on types, of the lists that the program has.
use Rattle.std.specs.Prelude.{ℕ, max, ◌&&◌, Bool, true, List, [], ◌∷◌}
use Rattle.floyd_ctypes.specs.declared.ctype.CType.{CType}
use Rattle.floyd_ctypes.specs.Structs.{Structs}
use Rattle.floyd_elab_names.specs.Types.{nesting, arrays_within}

abbrev pub most_nesting : List CType → ℕ
most_nesting [] = 0
most_nesting (t ∷ ts) = max (nesting t) (most_nesting ts)

abbrev pub each_within : Structs → List CType → Bool
each_within structs [] = true
each_within structs (t ∷ ts) = arrays_within structs t && each_within structs ts
