use Rattle.std.proofs.Common.{◌≡◌, length, take}
use Rattle.floyd_specread_sources.proofs.types.same_types.Given as goal

abbrev pub invariant-types : goal.invariant-types
invariant-types l = (length l.a ≡ length l.b) × (take l.i l.a ≡ take l.i l.b)
