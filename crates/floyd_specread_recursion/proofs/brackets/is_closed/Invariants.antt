use Rattle.std.proofs.Common.{◌≡◌, ◌-◌, ◌≤◌}
use Rattle.floyd_specread_recursion.specs.Structural.{closes}
use Rattle.floyd_specread_recursion.proofs.brackets.is_closed.Given as goal

abbrev pub invariant-tokens : goal.invariant-tokens
invariant-tokens l = record {
  few : l.count ≤ l.i;
  so_far : closes l.text.bytes.now l.text.tokens.now (l.to - l.i) l.count l.i ≡ closes l.text.bytes.now l.text.tokens.now (l.to - l.at) 0 l.at;
}
