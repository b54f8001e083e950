use Rattle.std.proofs.Common.{◌≡◌, ◌≤◌}
use Rattle.floyd_termread.specs.Brackets.{open_before}
use Rattle.floyd_termread.proofs.brackets.open_before.Given as goal

abbrev pub invariant-tokens : goal.invariant-tokens
invariant-tokens l = record {
  within : l.count ≤ l.i;
  done : l.count ≡ open_before l.tokens l.i;
}
