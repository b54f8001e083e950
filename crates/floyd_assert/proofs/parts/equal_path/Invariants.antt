use Rattle.std.proofs.Common.{◌≡◌, length, take}
use Rattle.floyd_assert.proofs.parts.equal_path.Given as goal

abbrev pub invariant-steps : goal.invariant-steps
invariant-steps l = (length l.a ≡ length l.b) × (take l.i l.a ≡ take l.i l.b)
