use Rattle.std.proofs.Common.{◌-◌, ◌≤◌, length}
use Rattle.floyd_play_arguments.proofs.VariableLemmas.{SoFar}
use Rattle.floyd_play_arguments.proofs.lists.variables_at.Given as goal

abbrev pub decreases-each : goal.decreases-each
decreases-each l = length l.text.tokens.now.items - l.next

abbrev pub invariant-each : goal.invariant-each
invariant-each l = record {
  within : l.next ≤ length l.text.tokens.now.items;
  so_far : SoFar l.text.bytes.now l.text.tokens.now l.at l.names l.next;
}
