use Rattle.std.proofs.Common.{◌≡◌, take}
use Rattle.floyd_assert.specs.Removal.{Lacks}
use Rattle.floyd_assert.specs.RemovalClauses.{left}
use Rattle.floyd_assert.proofs.removal.take_first.Given as goal

abbrev pub invariant-parts : goal.invariant-parts
invariant-parts l = record {
  same : l.taken ≡ l.initial.taken;
  missing : Lacks l.part (left (take l.i l.parts) (take l.i l.taken));
}
