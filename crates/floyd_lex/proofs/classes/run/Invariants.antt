use Rattle.std.proofs.Common.{◌≡◌, ◌+◌, ◌-◌, ◌≤◌, length, drop}
use Rattle.floyd_lex.specs.Classes.{run}
use Rattle.floyd_lex.proofs.classes.run.Given as goal

abbrev pub invariant-each : goal.invariant-each
invariant-each l = record {
  within : l.n ≤ length l.bytes;
  rest : l.n + run l.class (drop l.n l.bytes) ≡ run l.class l.bytes;
}

abbrev pub decreases-each : goal.decreases-each
decreases-each l = length l.bytes - l.n
