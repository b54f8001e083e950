use Rattle.std.proofs.Common.{length}
use Rattle.floyd_grammar.proofs.Turns.{Turning}
use Rattle.floyd_lex.specs.declared.kinds.Punctuator.TheVariants as p
use Rattle.floyd_script_tokens.specs.Sights.{is_mark}
use Rattle.floyd_script_arguments.specs.Grammar.{both}
use Rattle.floyd_script_arguments.specs.ArgumentClauses as r
use Rattle.floyd_script_arguments.proofs.arguments.read_some_weights.Given as goal

abbrev pub invariant-each : goal.invariant-each
invariant-each l = Turning (λ _. is_mark p.Comma) both (λ _. r.next_weight) tt l.reader (r.some_weights l.fn.reader)

abbrev pub decreases-each : goal.decreases-each
decreases-each l = length l.reader
