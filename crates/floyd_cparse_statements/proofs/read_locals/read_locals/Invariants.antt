use Rattle.std.proofs.Common.{length}
use Rattle.floyd_lex.specs.declared.kinds.Punctuator.TheVariants as p
use Rattle.floyd_grammar.proofs.Turns.{Turning}
use Rattle.floyd_cparse_tokens.specs.Tokens.{is_mark}
use Rattle.floyd_cparse_statements.specs.Statements.{plus_local}
use Rattle.floyd_cparse_statements.specs.StatementClauses.{locals, next_local}
use Rattle.floyd_cparse_statements.proofs.read_locals.read_locals.Given as goal

abbrev pub invariant-each : goal.invariant-each
invariant-each l = Turning (λ _. is_mark p.Comma) plus_local (λ _. next_local l.types l.room) (record { items = l.items; end = l.end }) l.reader (locals l.types l.room l.fn.reader)

abbrev pub decreases-each : goal.decreases-each
decreases-each l = length l.reader
