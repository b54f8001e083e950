use Rattle.std.proofs.Common.{◌≡◌, ◌++◌, drop}
use Rattle.floyd_assert.specs.RemovalClauses.{left}
use Rattle.floyd_assert.proofs.removal.share_left.Given as goal

abbrev pub invariant-parts : goal.invariant-parts
invariant-parts l = l.all.items ++ left (drop l.i l.parts) (drop l.i l.taken) ≡ left l.parts l.taken
