use Rattle.std.proofs.Common.{◌≡◌, length, take}
use Rattle.floyd_specread_sources.proofs.types.same_sizes.Given as goal

abbrev pub invariant-sizes : goal.invariant-sizes
invariant-sizes l = (length l.a ≡ length l.b) × (take l.i l.a ≡ take l.i l.b)
