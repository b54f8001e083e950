use Rattle.std.proofs.Common.{◌≡◌, ◌-◌, ◌≤◌}
use Rattle.floyd_lex.specs.Token.{part_of}
use Rattle.floyd_lex.proofs.list.Tokens.part.Given as goal

abbrev pub invariant-each : goal.invariant-each
invariant-each l = record {
  from : l.from ≤ l.at;
  to : l.at ≤ l.to;
  part : l.part ≡ part_of l.self l.from l.at;
}

abbrev pub decreases-each : goal.decreases-each
decreases-each l = l.to - l.at
