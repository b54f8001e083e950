use Rattle.std.proofs.Common.{◌≡◌, ◌+◌, ◌-◌, ◌≤◌, length}
use Rattle.floyd_termread_tokens.specs.Tokens.{is_mark}
use Rattle.floyd_specread_recursion.specs.Structural.{run}
use Rattle.floyd_specread_recursion.proofs.runs.marks_from.Given as goal

abbrev pub decreases-marks : goal.decreases-marks
decreases-marks l = length l.text.tokens.now.items - l.next

abbrev pub invariant-marks : goal.invariant-marks
invariant-marks l = record {
  from : l.at ≤ l.next;
  within : l.next ≤ length l.text.tokens.now.items;
  so_far : (l.next - l.at) + run l.text.bytes.now l.text.tokens.now (is_mark l.mark) l.next ≡ run l.text.bytes.now l.text.tokens.now (is_mark l.mark) l.at;
}
