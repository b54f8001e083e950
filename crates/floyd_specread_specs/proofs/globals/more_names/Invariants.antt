use Rattle.std.proofs.Common.{◌-◌, ◌≤◌, length}
use Rattle.floyd_lex.specs.declared.kinds.Punctuator.TheVariants as p
use Rattle.floyd_termread_marks.proofs.ListLemmas.{SoFar}
use Rattle.floyd_specread_specs.specs.Specifications.{global_behind}
use Rattle.floyd_specread_specs.proofs.globals.more_names.Given as goal

abbrev pub decreases-each : goal.decreases-each
decreases-each l = length l.text.tokens.now.items - l.next

abbrev pub invariant-each : goal.invariant-each
invariant-each l = record {
  within : l.next ≤ length l.text.tokens.now.items;
  so_far : SoFar l.text.bytes.now l.text.tokens.now 1 p.Semicolon (global_behind l.text.bytes.now l.text.tokens.now) l.at l.names l.next;
}
