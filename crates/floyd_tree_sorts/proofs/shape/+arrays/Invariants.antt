use Rattle.std.proofs.Common.{◌≡◌, ◌+◌, ◌-◌, ◌^◌, ◌≤◌, min, drop}
use Rattle.floyd_tree_sorts.specs.ShapeClauses.{arrays_of}
use Rattle.floyd_tree_sorts.proofs.shape.+arrays.Given as goal

abbrev pub invariant-arrays_of-shapes : goal.invariant-arrays_of-shapes
invariant-arrays_of-shapes l =
    (min (l.all + arrays_of (drop l.shape-index l.shapes)) (2 ^ 128 - 1) ≡ min (arrays_of l.shapes) (2 ^ 128 - 1)) × (l.all ≤ 2 ^ 128 - 1)
