use Rattle.std.proofs.Common.{◌≡◌, length, take}
use Rattle.floyd_assert.proofs.parts.equal_terms.Given as goal

abbrev pub invariant-terms : goal.invariant-terms
invariant-terms l = (length l.a ≡ length l.b) × (take l.i l.a ≡ take l.i l.b)
