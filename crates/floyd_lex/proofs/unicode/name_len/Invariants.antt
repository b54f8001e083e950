use Rattle.std.proofs.Common.{◌≡◌, ◌+◌, ◌-◌, ◌≤◌, length, drop}
use Rattle.floyd_lex.specs.Unicode.{name_len}
use Rattle.floyd_lex.proofs.unicode.name_len.Given as goal

abbrev pub invariant-each : goal.invariant-each
invariant-each l = record {
  within : l.n ≤ length l.bytes;
  rest : l.n + name_len (drop l.n l.bytes) ≡ name_len l.bytes;
}

abbrev pub decreases-each : goal.decreases-each
decreases-each l = length l.bytes - l.n
