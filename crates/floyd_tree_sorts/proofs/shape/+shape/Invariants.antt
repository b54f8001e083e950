use Rattle.std.proofs.Common.{◌≡◌, length, take}
use Rattle.floyd_tree_sorts.proofs.shape.+shape.Given as goal

abbrev pub invariant-same_shapes-shapes : goal.invariant-same_shapes-shapes
invariant-same_shapes-shapes l = (length l.a ≡ length l.b) × (take l.i l.a ≡ take l.i l.b)
