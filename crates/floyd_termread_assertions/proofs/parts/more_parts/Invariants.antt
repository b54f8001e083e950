use Rattle.std.proofs.Common.{◌+◌, ◌-◌, ◌≤◌, length}
use Rattle.floyd_lex.specs.declared.kinds.Punctuator.TheVariants as p
use Rattle.floyd_termread_scope.specs.Scopes.{env}
use Rattle.floyd_termread_marks.proofs.ListLemmas.{SoFar}
use Rattle.floyd_termread_assertions.specs.Assertions.{part_behind}
use Rattle.floyd_termread_assertions.proofs.parts.more_parts.Given as goal

abbrev pub decreases-each : goal.decreases-each
decreases-each l = (length l.text.tokens.now.items - l.at) + (1 - length l.parts)

abbrev pub invariant-each : goal.invariant-each
invariant-each l = record {
  from : l.initial.at ≤ l.at;
  within : l.at ≤ length l.text.tokens.now.items;
  so_far : SoFar l.text.bytes.now l.text.tokens.now l.depth p.Semicolon (part_behind l.text.bytes.now l.text.tokens.now l.depth (env l.scope l.bound)) l.initial.at l.parts l.at;
}
