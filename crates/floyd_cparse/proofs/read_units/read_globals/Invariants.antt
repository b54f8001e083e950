use Rattle.std.proofs.Common.{length}
use Rattle.floyd_lex.specs.declared.kinds.Punctuator.TheVariants as p
use Rattle.floyd_grammar.proofs.Turns.{Turning}
use Rattle.floyd_cparse_tokens.specs.Tokens.{is_mark}
use Rattle.floyd_cparse.specs.Units.{plus_global}
use Rattle.floyd_cparse.specs.UnitClauses.{globals, next_global}
use Rattle.floyd_cparse.proofs.read_units.read_globals.Given as goal

abbrev pub invariant-each : goal.invariant-each
invariant-each l = Turning (λ _. is_mark p.Comma) plus_global (λ _. next_global l.types) (record { items = l.items; end = l.end }) l.reader (globals l.types l.fn.declarator l.fn.reader)

abbrev pub decreases-each : goal.decreases-each
decreases-each l = length l.reader
