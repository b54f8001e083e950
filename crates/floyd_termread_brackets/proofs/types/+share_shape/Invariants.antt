use Rattle.std.proofs.Common.{◌≡◌, take}
use Rattle.floyd_termread_brackets.proofs.types.+share_shape.Given as goal

abbrev pub invariant-share_shapes-shapes : goal.invariant-share_shapes-shapes
invariant-share_shapes-shapes l = l.all ≡ take l.shape-index l.shapes
