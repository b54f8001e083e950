use Rattle.std.proofs.Common.{◌+◌, ◌-◌, ◌≤◌, length}
use Rattle.floyd_lex.specs.declared.kinds.Punctuator.TheVariants as p
use Rattle.floyd_termread_scope.specs.Scopes.{env}
use Rattle.floyd_termread_marks.proofs.ListLemmas.{SoFar}
use Rattle.floyd_specread_declarations.specs.Declarations.{term_behind}
use Rattle.floyd_specread_declarations.proofs.by.more_terms.Given as goal

abbrev pub decreases-each : goal.decreases-each
decreases-each l = (length l.text.tokens.now.items - l.next) + (1 - length l.terms)

abbrev pub invariant-each : goal.invariant-each
invariant-each l = record {
  from : l.at ≤ l.next;
  within : l.next ≤ length l.text.tokens.now.items;
  so_far : SoFar l.text.bytes.now l.text.tokens.now 1 p.Comma (term_behind l.text.bytes.now l.text.tokens.now (env l.scope l.bound)) l.at l.terms l.next;
}
