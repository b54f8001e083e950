use Rattle.std.proofs.Common.{length}
use Rattle.floyd_grammar.proofs.Turns.{Turning}
use Rattle.floyd_script_tokens.specs.Sights.{is_given}
use Rattle.floyd_script_arguments.specs.Grammar.{both}
use Rattle.floyd_script_arguments.specs.ArgumentClauses as r
use Rattle.floyd_script_arguments.proofs.arguments.read_all_given.Given as goal

abbrev pub invariant-each : goal.invariant-each
invariant-each l = Turning (λ _. is_given) both (λ _. r.given) tt l.reader (r.all_given l.fn.reader)

abbrev pub decreases-each : goal.decreases-each
decreases-each l = length l.reader
