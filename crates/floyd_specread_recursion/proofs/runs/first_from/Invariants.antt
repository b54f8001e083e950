use Rattle.std.proofs.Common.{◌≡◌, ◌+◌, ◌-◌, ◌≤◌, length}
use Rattle.floyd_specread_recursion.specs.Structural.{run, stands_before}
use Rattle.floyd_specread_recursion.proofs.runs.first_from.Given as goal

abbrev pub decreases-tokens : goal.decreases-tokens
decreases-tokens l = length l.text.tokens.now.items - l.next

abbrev pub invariant-tokens : goal.invariant-tokens
invariant-tokens l = record {
  from : l.at ≤ l.next;
  within : l.next ≤ length l.text.tokens.now.items;
  so_far : l.next + run l.text.bytes.now l.text.tokens.now (stands_before l.place) l.next ≡ l.at + run l.text.bytes.now l.text.tokens.now (stands_before l.place) l.at;
}
