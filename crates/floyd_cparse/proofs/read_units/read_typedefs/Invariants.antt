use Rattle.std.proofs.Common.{length}
use Rattle.floyd_lex.specs.declared.kinds.Punctuator.TheVariants as p
use Rattle.floyd_grammar.proofs.Turns.{Turning}
use Rattle.floyd_cparse_tokens.specs.Tokens.{is_mark}
use Rattle.floyd_cparse.specs.Units.{Typedefs, plus_typedef}
use Rattle.floyd_cparse.specs.UnitClauses.{typedefs, next_typedef}
use Rattle.floyd_cparse.proofs.read_units.read_typedefs.Given as goal

abbrev pub invariant-each : goal.invariant-each
invariant-each l = Turning (λ _. is_mark p.Comma) plus_typedef (λ (all : Typedefs). next_typedef all.types) (record { items = l.items; types = l.types; end = l.end }) l.reader (typedefs l.fn.types l.fn.reader)

abbrev pub decreases-each : goal.decreases-each
decreases-each l = length l.reader
