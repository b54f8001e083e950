use Rattle.std.proofs.Common.{◌+◌, ◌-◌, ◌≤◌, [], length}
use Rattle.floyd_lex.specs.declared.kinds.Punctuator.TheVariants as p
use Rattle.floyd_termread_scope.specs.Scopes.{env}
use Rattle.floyd_specread_words.specs.Words.{is_other}
use Rattle.floyd_specread_words.proofs.ManyLemmas.{SoFar}
use Rattle.floyd_specread_specs.specs.Specifications.{type_behind}
use Rattle.floyd_specread_specs.proofs.types.more_types.Given as goal

abbrev pub decreases-each : goal.decreases-each
decreases-each l = (length l.text.tokens.now.items - l.next) + (1 - length l.types)

abbrev pub invariant-each : goal.invariant-each
invariant-each l = record {
  within : l.next ≤ length l.text.tokens.now.items;
  so_far : SoFar l.text.bytes.now l.text.tokens.now (is_other p.CloseBracket) (type_behind l.text.bytes.now l.text.tokens.now (env l.scope l.bound)) [] l.at l.types l.next;
}
