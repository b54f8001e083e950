use Rattle.std.proofs.Common.{◌+◌, ◌-◌, ◌≤◌, length}
use Rattle.floyd_lex.specs.declared.kinds.Punctuator.TheVariants as p
use Rattle.floyd_termread_marks.proofs.ListLemmas.{SoFar}
use Rattle.floyd_specread_skims.specs.Skims as specs
use Rattle.floyd_specread_skims.proofs.parts.skim_arguments.Given as goal

abbrev pub decreases-each : goal.decreases-each
decreases-each l = (length l.text.tokens.now.items - l.at) + (1 - length l.found)

abbrev pub invariant-each : goal.invariant-each
invariant-each l = record {
  from : l.initial.at ≤ l.at;
  within : l.at ≤ length l.text.tokens.now.items;
  so_far : SoFar l.text.bytes.now l.text.tokens.now l.depth p.Comma (specs.argument_behind l.text.bytes.now l.text.tokens.now l.depth) l.initial.at l.found l.at;
}
