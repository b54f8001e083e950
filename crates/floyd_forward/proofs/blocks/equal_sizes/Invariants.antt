use Rattle.std.proofs.Common.{◌≡◌, length, take}
use Rattle.floyd_forward.proofs.blocks.equal_sizes.Given as goal

abbrev pub invariant-sizes : goal.invariant-sizes
invariant-sizes l = (length l.a ≡ length l.b) × (take l.i l.a ≡ take l.i l.b)
