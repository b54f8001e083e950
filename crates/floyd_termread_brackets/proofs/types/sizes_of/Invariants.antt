use Rattle.std.proofs.Common.{◌≡◌, ◌+◌, flat_map, map, take, drop, length}
use Rattle.floyd_tree_sorts.specs.ShapeClauses.{arrays_of}
use Rattle.floyd_termread_brackets.specs.Brackets.{type_shape, type_sizes}
use Rattle.floyd_termread_brackets.proofs.types.sizes_of.Given as goal

abbrev pub invariant-types : goal.invariant-types
invariant-types l = record {
  value : l.all ≡ flat_map type_sizes (take l.t-index l.types);
  count : length l.all + arrays_of (map type_shape (drop l.t-index l.types)) ≡ arrays_of (map type_shape l.types);
}
