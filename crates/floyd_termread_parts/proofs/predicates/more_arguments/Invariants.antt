use Rattle.std.proofs.Common.{◌+◌, ◌-◌, ◌≤◌, length}
use Rattle.floyd_lex.specs.declared.kinds.Punctuator.TheVariants as p
use Rattle.floyd_termread_scope.specs.Scopes.{env}
use Rattle.floyd_termread_marks.proofs.ListLemmas.{SoFar}
use Rattle.floyd_termread_parts.specs.Parts.{argument_behind}
use Rattle.floyd_termread_parts.proofs.predicates.more_arguments.Given as goal

abbrev pub decreases-each : goal.decreases-each
decreases-each l = (length l.text.tokens.now.items - l.at) + (1 - length l.terms)

abbrev pub invariant-each : goal.invariant-each
invariant-each l = record {
  from : l.initial.at ≤ l.at;
  within : l.at ≤ length l.text.tokens.now.items;
  so_far : SoFar l.text.bytes.now l.text.tokens.now l.depth p.Comma (argument_behind l.text.bytes.now l.text.tokens.now l.depth (env l.scope l.bound) l.pred) l.initial.at l.terms l.at;
}
